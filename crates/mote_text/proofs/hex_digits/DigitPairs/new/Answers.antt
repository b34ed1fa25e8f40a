use Rattle.std.proofs.Common.{arith}
use Rattle.hex.specs.Hex.{lower_digits}
use Rattle.mote_text.proofs.DigitTables.{encode_with-at}
use Rattle.mote_text.proofs.hex_digits.DigitPairs.new.Goals as goal

pub invariant_of-result : goal.invariant_of-result
invariant_of-result c =
    record {
      pairs = λ byte below.
          grind (arith, encode_with-at lower_digits c.every_byte.result byte (omega (arith, c.every_byte.auto, c.every_byte.type_inv)));
    }
