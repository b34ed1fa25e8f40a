-- The slot of a timer's cell in the table.
use Rattle.std.specs.Prelude.{ℕ, ◌+◌, ◌-◌, ◌*◌, ◌/◌, ◌%◌, Bool, true, ◌&&◌, ◌==◌, List, [], ◌∷◌, if◌then◌else◌, nat_le, nat_lt}
use Rattle.timer_core.specs.declared.timer.Timer.{Timer}
use Rattle.timer_core.specs.Names.{callback_timer, event_timer}

-- whether the timer's name is in range
abbrev pub is_named : Timer → Bool
is_named (Timer.Event p t) = nat_le 4 p.0 && nat_le p.0 19 && nat_lt t 8
is_named (Timer.Callback p c) = nat_le 4 p.0 && nat_le p.0 19 && nat_lt c 4

-- 12 slots for each application, the event timers' first
abbrev pub slot_of : Timer → ℕ
slot_of (Timer.Event p t) = 12 * (p.0 - 4) + t
slot_of (Timer.Callback p c) = 12 * (p.0 - 4) + 8 + c

-- the timer with this slot
abbrev pub timer_at : ℕ → Timer
timer_at slot =
    let number = slot % 12 in
    if nat_lt number 8 then event_timer (4 + slot / 12) number else callback_timer (4 + slot / 12) (number - 8)

-- whether these names are in range, and have the slots n, n + 1, ..
abbrev pub are_placed : ℕ → List Timer → Bool
are_placed n [] = true
are_placed n (timer ∷ later) = (slot_of timer == n && is_named timer) && are_placed (n + 1) later
