use Rattle.std.proofs.Common.{◌≡◌, ◌^◌, ◌<◌, true, take}
use Rattle.mote_text.proofs.Common.{list_all, is_ascii_digit, digits_value}
use Rattle.mote_text.proofs.script.read_digits.Given as goal

abbrev pub invariant-loop-byte : goal.invariant-loop-byte
invariant-loop-byte l =
    let earlier = take l.byte-index l.digits in
    (l.number ≡ digits_value 10 earlier) × (list_all is_ascii_digit earlier ≡ true) × (l.number < 2 ^ 32)
