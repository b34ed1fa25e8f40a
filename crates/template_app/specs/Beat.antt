-- What the application says that beats by an event timer. Its state is whether the reply to its print is awaited.
use Rattle.std.specs.Prelude.{ℕ, Bool, true, false, List, codes, ◌==◌, if◌then◌else◌}
use Rattle.mote_types.specs.Applications.{Says}
use Rattle.mote_types.specs.Code.StateMachines.{fold_says}
use Rattle.mote_types.specs.declared.call.Call.{Call}
use Rattle.mote_types.specs.declared.event.Stimulus.{Stimulus}
use Rattle.mote_types.specs.EventNumbers.{INIT, TIMER}
use Rattle.template_app.specs.declared.beat.Beat.{Beat}

-- what it prints
abbrev pub beat_text : List ℕ
beat_text = codes "beat\n"

-- At its start it sets its timer. Each time that the timer runs out it prints, and then resets the timer
abbrev pub beat_answer : Bool → Stimulus → Call
beat_answer printed (Stimulus.Event event) =
    if event.code == INIT then Call.TimerSet 0 10
    else if event.code == TIMER then Call.Print (record { items = beat_text })
    else Call.Wait
beat_answer printed (Stimulus.Answer reply) = if printed then Call.TimerReset 0 else Call.Wait
beat_answer printed (Stimulus.Callback timer) = Call.Wait

abbrev pub beat_next : Bool → Stimulus → Bool
beat_next printed (Stimulus.Event event) =
    if event.code == INIT then false
    else if event.code == TIMER then true
    else printed
beat_next printed (Stimulus.Answer reply) = false
beat_next printed (Stimulus.Callback timer) = printed

abbrev pub beat_says : Beat → Says
beat_says beat = fold_says beat_answer beat_next beat.printed
