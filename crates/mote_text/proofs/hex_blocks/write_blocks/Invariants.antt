use Rattle.std.proofs.Common.{◌*◌}
use Rattle.mote_text.proofs.HexBlocks.{IsWritten}
use Rattle.mote_text.proofs.hex_blocks.write_blocks.Given as goal

abbrev pub invariant-rows : goal.invariant-rows
invariant-rows l = IsWritten l.bytes l.buffer (16 * l.row)
