use Rattle.mote_text.specs.Code.HexDigits.{IsReadTo}
use Rattle.mote_text.proofs.hex_digits.DigitValues.read.Given as goal

abbrev pub invariant-bytes : goal.invariant-bytes
invariant-bytes l = IsReadTo l.digits l.place l.i l.bits
