-- What the application says that blinks by an event timer.
use Rattle.std.specs.Prelude.{ℕ, Bool, true, false, not, List, [], ◌∷◌, ◌==◌, if◌then◌else◌}
use Rattle.mote_types.specs.Applications.{Says}
use Rattle.mote_types.specs.Code.StateMachines.{fold_says}
use Rattle.mote_types.specs.declared.call.Call.{Call}
use Rattle.mote_types.specs.declared.event.Stimulus.{Stimulus}
use Rattle.mote_types.specs.EventNumbers.{INIT, TIMER}
use Rattle.mote_apps.specs.declared.blink.Blink.{Blink}

-- 'on' or 'off', and a line end
abbrev pub light_text : Bool → List ℕ
light_text true = 111 ∷ 110 ∷ 10 ∷ []
light_text false = 111 ∷ 102 ∷ 102 ∷ 10 ∷ []

-- At its start it sets its timer. Each time that the timer runs out it prints the light, and then resets the timer
abbrev pub blink_answer : Blink → Stimulus → Call
blink_answer blink (Stimulus.Event event) =
    if event.code == INIT then Call.TimerSet 0 10
    else if event.code == TIMER then Call.Print (record { items = light_text (not blink.lit) })
    else Call.Wait
blink_answer blink (Stimulus.Answer reply) = if blink.printed then Call.TimerReset 0 else Call.Wait
blink_answer blink (Stimulus.Callback timer) = Call.Wait

abbrev pub blink_next : Blink → Stimulus → Blink
blink_next blink (Stimulus.Event event) =
    if event.code == INIT then record { lit = false; printed = false }
    else if event.code == TIMER then record { lit = not blink.lit; printed = true }
    else blink
blink_next blink (Stimulus.Answer reply) = if blink.printed then record blink { printed = false } else blink
blink_next blink (Stimulus.Callback timer) = blink

abbrev pub blink_says : Blink → Says
blink_says = fold_says blink_answer blink_next
