use Rattle.std.proofs.Common.{◌≡◌, ◌+◌, ◌^◌, ◌≤◌, true, take}
use Rattle.mote_text.proofs.Common.{list_all, is_ascii_digit, digits_value}
use Rattle.mote_text.proofs.script.short_number.Given as goal

abbrev pub invariant-loop-i : goal.invariant-loop-i
invariant-loop-i l =
    let digits = take l.i l.piece in
    (l.number ≡ digits_value 10 digits) × (list_all is_ascii_digit digits ≡ true) × (l.number + 1 ≤ 10 ^ l.i)
