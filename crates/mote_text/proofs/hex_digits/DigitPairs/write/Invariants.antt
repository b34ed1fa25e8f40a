use Rattle.std.proofs.Common.{◌≡◌, ◌*◌, ◌++◌, take, drop}
use Rattle.mote_text.proofs.Common.{encode_lower}
use Rattle.mote_text.proofs.hex_digits.DigitPairs.write.Given as goal

abbrev pub invariant-bytes : goal.invariant-bytes
invariant-bytes l = take (2 * l.i) l.place ++ encode_lower (drop l.i l.bytes) ≡ encode_lower l.bytes
