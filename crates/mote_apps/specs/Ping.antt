-- What the application says that broadcasts a count by an event timer, under an event number of its own.
use Rattle.std.specs.Prelude.{ℕ, ◌+◌, ◌++◌, List, [], ◌∷◌, ◌==◌, if◌then◌else◌, nat_le, nat_lt, Option, Some, None, decimal}
use Rattle.mote_types.specs.Applications.{Says}
use Rattle.mote_types.specs.Code.StateMachines.{fold_says}
use Rattle.mote_types.specs.declared.call.Call.{Call}
use Rattle.mote_types.specs.declared.event.Payload.{Payload}
use Rattle.mote_types.specs.declared.event.Stimulus.{Stimulus}
use Rattle.mote_types.specs.declared.event.Event.{Event}
use Rattle.mote_types.specs.EventNumbers.{INIT, TIMER}
use Rattle.mote_types.specs.declared.reply.Reply.{Reply}
use Rattle.mote_apps.specs.declared.ping.Ping.{Ping}
use Rattle.mote_apps.specs.declared.ping.Stage.{Stage}

abbrev pub most : ℕ
most = 4294967295

-- the number and a line end
abbrev pub number_text : ℕ → List ℕ
number_text n = decimal n ++ 10 ∷ []

-- the event number that an answer gives
abbrev pub number_given : Reply → Option ℕ
number_given (Reply.Num n) = if nat_le n 255 then Some n else None
number_given _ = None

-- an event under its own number is printed
abbrev pub heard_answer : Option ℕ → ℕ → Payload → Call
heard_answer (Some number) code (Payload.Num n) =
    if code == number then Call.Print (record { items = number_text n }) else Call.Wait
heard_answer _ code payload = Call.Wait

abbrev pub ring_answer : Option ℕ → ℕ → Call
ring_answer (Some number) count = Call.Broadcast number (Payload.Num count)
ring_answer None count = Call.Wait

abbrev pub event_answer : Ping → Event → Call
event_answer ping event =
    if event.code == INIT then Call.AllocEvent
    else if event.code == TIMER then ring_answer ping.number ping.count
    else heard_answer ping.number event.code event.payload

abbrev pub asked_answer : Option ℕ → Call
asked_answer (Some number) = Call.TimerSet 0 5
asked_answer None = Call.Exit

abbrev pub reply_answer : Stage → Reply → Call
reply_answer Stage.Idle reply = Call.Wait
reply_answer Stage.Asked reply = asked_answer (number_given reply)
reply_answer Stage.Sent reply = Call.TimerReset 0

-- At its start it asks for an event number and then sets its timer. Each time that the timer runs out it broadcasts its
-- count under that number, and then resets the timer
abbrev pub ping_answer : Ping → Stimulus → Call
ping_answer ping (Stimulus.Event event) = event_answer ping event
ping_answer ping (Stimulus.Answer reply) = reply_answer ping.stage reply
ping_answer ping (Stimulus.Callback timer) = Call.Wait

-- the count after one more
abbrev pub counted : ℕ → ℕ
counted count = if nat_lt count most then count + 1 else count

abbrev pub ring_next : Option ℕ → Ping → Ping
ring_next (Some number) ping = record ping { count = counted ping.count; stage = Stage.Sent }
ring_next None ping = ping

abbrev pub event_next : Ping → ℕ → Ping
event_next ping code =
    if code == INIT then record ping { count = 0; stage = Stage.Asked }
    else if code == TIMER then ring_next ping.number ping
    else ping

abbrev pub asked_next : Option ℕ → Ping → Ping
asked_next (Some number) ping = record ping { number = Some number; stage = Stage.Idle }
asked_next None ping = record ping { stage = Stage.Idle }

abbrev pub reply_next : Stage → Reply → Ping → Ping
reply_next Stage.Idle reply ping = ping
reply_next Stage.Asked reply ping = asked_next (number_given reply) ping
reply_next Stage.Sent reply ping = record ping { stage = Stage.Idle }

abbrev pub ping_next : Ping → Stimulus → Ping
ping_next ping (Stimulus.Event event) = event_next ping event.code
ping_next ping (Stimulus.Answer reply) = reply_next ping.stage reply ping
ping_next ping (Stimulus.Callback timer) = ping

abbrev pub ping_says : Ping → Says
ping_says = fold_says ping_answer ping_next
