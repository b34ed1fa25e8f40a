use Rattle.std.proofs.Common.{arith}
use Rattle.hex.proofs.Pairs.{encode_step, encode_done}
use Rattle.hex.specs.Hex.{lower_digits}
use Rattle.mote_text.proofs.hex_digits.DigitPairs.write.Goals as goal

pub bytes-preserved : goal.bytes-preserved
bytes-preserved c = grind (arith, encode_step, lower_digits)

pub returns : goal.returns
returns c = grind (arith, encode_done)
