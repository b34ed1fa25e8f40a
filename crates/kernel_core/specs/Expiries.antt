-- The queued expiries of callback timers: they are cancelled when their timer is set or stopped.
use Rattle.std.specs.Prelude.{Bool, ◌||◌, map}
use Rattle.mote_types.specs.Kinds.{ProcessNumber, TimerNumber}
use Rattle.process_core.specs.Agenda.{Queued}
use Rattle.kernel_core.specs.Machine.{Machine, scheduled}

-- an expiry whose timer passes the test is cancelled; it keeps its position
abbrev pub cancelled_if : (ProcessNumber → TimerNumber → Bool) → Queued Bool → Queued Bool
cancelled_if test (Queued.Expiry p c is_cancelled) = Queued.Expiry p c (is_cancelled || test p c)
cancelled_if test event = event

abbrev pub expiries_cancelled : (ProcessNumber → TimerNumber → Bool) → Machine → Machine
expiries_cancelled test = scheduled (λ s. record s { events = map (cancelled_if test) s.events })
