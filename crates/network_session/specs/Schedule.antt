-- What is done next, once all motes rest.
use Rattle.std.specs.Prelude.{ℕ, ◌||◌, ◌==◌, length, slice_get, Option, None, Some, nat_lt, if◌then◌else◌, Bool, true, false}
use Rattle.network_session.specs.Alarms.{first_come}
use Rattle.medium_core.specs.Air.{arrival}
use Rattle.medium_core.specs.declared.flight.Flight.{Flight}
use Rattle.mote_session.specs.SessionView.{SessionView}
use Rattle.network_session.specs.Network.{NetworkView, wakes_of}
use Rattle.network_session.specs.declared.outcome.Outcome.{Outcome}

-- nobody hears a frame of no bytes, one for a halted mote, or one for a mote that doesn't exist
abbrev pub is_unheard : Flight → Option SessionView → Bool
is_unheard f None = true
is_unheard f (Some mote) = mote.machine.is_halted || length f.bytes.items == 0

-- time goes on, if it may
abbrev pub passing : NetworkView → Outcome
passing net = if nat_lt net.air.clock net.target then Outcome.Clock else Outcome.Rest

-- a frame arrives for this mote, which gets the time first
abbrev pub hearing : ℕ → Flight → Option SessionView → Outcome
hearing clock f None = Outcome.Missed f.from f.to
hearing clock f (Some mote) =
    if is_unheard f (Some mote) then Outcome.Missed f.from f.to
    else if nat_lt mote.machine.clock clock then Outcome.Woken f.to
    else Outcome.Heard f.to

abbrev pub arriving : NetworkView → Option Flight → Outcome
arriving net None = passing net
arriving net (Some f) = hearing net.air.clock f (slice_get net.motes f.to)

-- a mote whose moment has come; without one, a frame that arrives
abbrev pub waking : NetworkView → Option ℕ → Outcome
waking net (Some m) = Outcome.Woken m
waking net None = arriving net (arrival net.air)

-- At each moment the motes whose moment has come get the time, in order. Then frames arrive, in order. Then time goes on
abbrev pub due_now : NetworkView → Outcome
due_now net = waking net (first_come net.air.clock (wakes_of net.motes))

abbrev pub is_rest : Outcome → Bool
is_rest Outcome.Rest = true
is_rest _ = false

-- First all motes are started, in order. Once an input has used up its rounds, no step is made
abbrev pub due_step : NetworkView → Outcome
due_step net =
    if nat_lt net.started (length net.motes) then Outcome.Started net.started
    else if net.rounds == 0 then (if is_rest (due_now net) then Outcome.Rest else Outcome.Exhausted)
    else due_now net
