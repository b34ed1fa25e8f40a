-- What a network refuses, and why. What comes first counts.
use Rattle.std.specs.Prelude.{ℕ, ◌+◌, ◌^◌, Bool, true, false, is_some, nat_lt, slice_get, Option, None, Some, if◌then◌else◌}
use Rattle.std.specs.Option.{option_map}
use Rattle.medium_core.specs.Air.{arrival}
use Rattle.medium_core.specs.declared.flight.Flight.{Flight}
use Rattle.mote_types.specs.declared.entry.Input.{Input}
use Rattle.mote_session.specs.Refusals.{input_refusal}
use Rattle.mote_session.specs.SessionView.{SessionView}
use Rattle.mote_session.specs.declared.refusal.SessionRefusal.{SessionRefusal}
use Rattle.network_session.specs.Network.{NetworkView}
use Rattle.network_session.specs.Schedule.{due_step}
use Rattle.network_session.specs.Waking.{due_tick}
use Rattle.network_session.specs.declared.fault.NetworkFault.{NetworkFault}
use Rattle.network_session.specs.declared.outcome.Outcome.{Outcome}

abbrev pub is_tick : Input → Bool
is_tick (Input.Tick n) = true
is_tick _ = false

-- the mote's own refusal of an input
abbrev pub mote_refusal : Input → SessionView → Option NetworkFault
mote_refusal input mote = option_map (λ (refusal : SessionRefusal). NetworkFault.Refused refusal) (input_refusal input mote)

-- of an input from outside for this mote, at this moment
abbrev pub refusal_for : Input → ℕ → Option SessionView → Option NetworkFault
refusal_for input clock None = Some NetworkFault.NoMote
refusal_for input clock (Some mote) =
    if is_tick input then Some NetworkFault.IsTime
    else if nat_lt mote.machine.clock clock then Some NetworkFault.Behind
    else mote_refusal input mote

-- why an input from outside can't be submitted
abbrev pub feed_refusal : ℕ → Input → NetworkView → Option NetworkFault
feed_refusal m input net =
    if is_some net.active then Some NetworkFault.NotAtRest
    else refusal_for input net.air.clock (slice_get net.motes m)

-- why a mote can't get the time
abbrev pub time_refusal : ℕ → Option SessionView → Option NetworkFault
time_refusal clock None = Some NetworkFault.NoMote
time_refusal clock (Some mote) =
    if nat_lt mote.machine.clock clock then mote_refusal (due_tick clock mote) mote else None

-- the same, by the mote's number; a mote that isn't behind doesn't need the time
abbrev pub catch_up_refusal : ℕ → NetworkView → Option NetworkFault
catch_up_refusal m net =
    if is_some net.active then Some NetworkFault.NotAtRest
    else time_refusal net.air.clock (slice_get net.motes m)

-- why time can't go on by these ticks
abbrev pub pass_refusal : ℕ → NetworkView → Option NetworkFault
pass_refusal ticks net =
    if is_some net.active then Some NetworkFault.NotAtRest
    else if nat_lt (2 ^ 62) (net.target + ticks) then Some NetworkFault.TooLong
    else None

-- why a mote takes no call
abbrev pub call_refusal : Option SessionView → Option NetworkFault
call_refusal None = Some NetworkFault.NoTurn
call_refusal (Some mote) = if is_some mote.turn then None else Some (NetworkFault.Refused SessionRefusal.NoTurn)

abbrev pub mote_at_work : NetworkView → Option ℕ → Option SessionView
mote_at_work net None = None
mote_at_work net (Some m) = slice_get net.motes m

-- why no call is awaited
abbrev pub submit_refusal : NetworkView → Option NetworkFault
submit_refusal net = call_refusal (mote_at_work net net.active)

-- why a mote doesn't get what a step passes to it
abbrev pub passed_refusal : (SessionView → Input) → Option SessionView → Option NetworkFault
passed_refusal input None = None
passed_refusal input (Some mote) = mote_refusal (input mote) mote

abbrev pub frame_refusal : Option Flight → Option SessionView → Option NetworkFault
frame_refusal None mote = None
frame_refusal (Some flight) mote = passed_refusal (λ one. Input.Frame flight.bytes) mote

-- why a step can't be made that passes the time to a mote, or the frame that arrives
abbrev pub outcome_refusal : Outcome → NetworkView → Option NetworkFault
outcome_refusal (Outcome.Woken m) net = passed_refusal (due_tick net.air.clock) (slice_get net.motes m)
outcome_refusal (Outcome.Heard m) net = frame_refusal (arrival net.air) (slice_get net.motes m)
outcome_refusal _ net = None

-- why the mote at work can't work on
abbrev pub work_refusal : Option SessionView → Option NetworkFault
work_refusal None = None
work_refusal (Some mote) = if is_some mote.turn then Some (NetworkFault.Refused SessionRefusal.AwaitsCall) else None

-- why the next step can't be made
abbrev pub step_refusal : NetworkView → Option NetworkFault
step_refusal net = if is_some net.active then work_refusal (mote_at_work net net.active) else outcome_refusal (due_step net) net
