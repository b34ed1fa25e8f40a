use Rattle.std.proofs.Common.{◌≡◌}
use Rattle.mote_text.proofs.DigitTables.{filled}
use Rattle.mote_text.proofs.hex_digits.DigitValues.new.Given as goal

abbrev pub invariant-digits : goal.invariant-digits
invariant-digits l = l.values ≡ filled l.i
