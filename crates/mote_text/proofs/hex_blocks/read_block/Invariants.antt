use Rattle.std.proofs.Common.{◌+◌}
use Rattle.mote_text.specs.Code.HexDigits.{IsReadTo}
use Rattle.mote_text.proofs.hex_blocks.read_block.Given as goal

abbrev pub invariant-bytes : goal.invariant-bytes
invariant-bytes l = IsReadTo l.digits l.buffer (l.at + l.i) l.bits
