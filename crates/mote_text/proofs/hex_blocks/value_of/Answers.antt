use Rattle.std.proofs.Common.{arith}
use Rattle.mote_text.proofs.HexBlocks.{letter_right, none_right}
use Rattle.mote_text.proofs.hex_blocks.value_of.Goals as goal

pub returns-then-letter-lt6 : goal.returns-then-letter-lt6
returns-then-letter-lt6 c = letter_right c.args.digit (omega arith) (omega arith) (omega arith)

pub returns-else-letter-lt6 : goal.returns-else-letter-lt6
returns-else-letter-lt6 c = none_right c.args.digit (omega arith) (omega arith) (omega arith)
