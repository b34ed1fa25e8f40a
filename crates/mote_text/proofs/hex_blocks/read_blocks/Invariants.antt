use Rattle.std.proofs.Common.{◌*◌}
use Rattle.mote_text.specs.Code.HexDigits.{IsReadTo}
use Rattle.mote_text.proofs.hex_blocks.read_blocks.Given as goal

abbrev pub invariant-rows : goal.invariant-rows
invariant-rows l = IsReadTo l.digits l.buffer (16 * l.row) l.bits
