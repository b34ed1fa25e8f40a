-- What is refused, and why. What comes first counts.
use Rattle.std.specs.Prelude.{ℕ, ◌==◌, not, is_none, is_some, length, slice_get, Bool, true, false, Option, None, Some, if◌then◌else◌}
use Rattle.medium_core.specs.Air.{may_add}
use Rattle.medium_core.specs.declared.link.Link.{Link}
use Rattle.mote_session.specs.SessionView.{AwaitedCall, SessionView}
use Rattle.mote_session.specs.declared.refusal.SessionRefusal.{SessionRefusal}
use Rattle.mote_types.specs.declared.entry.Input.{Input}
use Rattle.network_session.specs.Network.{NetworkView}
use Rattle.network_session.specs.Refusals.{catch_up_refusal, mote_at_work, pass_refusal}
use Rattle.network_session.specs.Refusals as network
use Rattle.network_session.specs.declared.fault.NetworkFault.{NetworkFault}
use Rattle.network_steps.specs.StepsView.{StepsView}
use Rattle.network_steps.specs.declared.came.Phase.{Phase}
use Rattle.network_steps.specs.declared.fault.StepsFault.{StepsFault}

-- the same, of what the network refused
abbrev pub fault_of : NetworkFault → StepsFault
fault_of (NetworkFault.Refused refusal) = StepsFault.Refused refusal
fault_of NetworkFault.NoTurn = StepsFault.Refused SessionRefusal.NoTurn
fault_of NetworkFault.NotAtRest = StepsFault.Refused SessionRefusal.NotAtRest
fault_of NetworkFault.NoMote = StepsFault.NoMote
fault_of NetworkFault.Behind = StepsFault.Refused SessionRefusal.NotAtRest
fault_of NetworkFault.IsTime = StepsFault.Refused SessionRefusal.NoInput
fault_of NetworkFault.TooLong = StepsFault.Refused SessionRefusal.TooManyInputs

abbrev pub fault_if : Option NetworkFault → Option StepsFault
fault_if None = None
fault_if (Some fault) = Some (fault_of fault)

abbrev pub turn_of : Option SessionView → Option AwaitedCall
turn_of None = None
turn_of (Some mote) = mote.turn

-- the turn of the mote at work, which awaits its call
abbrev pub awaited_turn : NetworkView → Option AwaitedCall
awaited_turn net = turn_of (mote_at_work net net.active)

abbrev pub unrest_in : Phase → Option StepsFault
unrest_in Phase.Resting = None
unrest_in Phase.Exhausted = Some (StepsFault.Refused SessionRefusal.Halted)
unrest_in _ = Some (StepsFault.Refused SessionRefusal.NotAtRest)

-- why no input is taken
abbrev pub unrest : StepsView → Option StepsFault
unrest s = if is_some (awaited_turn s.net) then Some (StepsFault.Refused SessionRefusal.AwaitsCall) else unrest_in s.phase

abbrev pub submit_refusal : StepsView → Option StepsFault
submit_refusal s = fault_if (network.submit_refusal s.net)

abbrev pub tick_refusal : ℕ → StepsView → Option StepsFault
tick_refusal ticks s = if is_some (unrest s) then unrest s else fault_if (pass_refusal ticks s.net)

-- serial bytes or a frame, of at least one byte
abbrev pub is_from_outside : Input → Bool
is_from_outside (Input.Tick n) = false
is_from_outside (Input.Serial bytes) = not (length bytes.items == 0)
is_from_outside (Input.Frame bytes) = not (length bytes.items == 0)

-- why a mote can't get the time; a halted mote doesn't need it
abbrev pub told_refusal : ℕ → Option SessionView → NetworkView → Option StepsFault
told_refusal m None net = Some StepsFault.NoMote
told_refusal m (Some mote) net = if mote.machine.is_halted then None else fault_if (catch_up_refusal m net)

abbrev pub outside_refusal : ℕ → Input → NetworkView → Option StepsFault
outside_refusal m input net =
    if is_none (slice_get net.motes m) then Some StepsFault.NoMote
    else if is_from_outside input then told_refusal m (slice_get net.motes m) net
    else Some (StepsFault.Refused SessionRefusal.NoInput)

abbrev pub feed_refusal : ℕ → Input → StepsView → Option StepsFault
feed_refusal m input s = if is_some (unrest s) then unrest s else outside_refusal m input s.net

abbrev pub is_fresh : Phase → Bool
is_fresh Phase.Fresh = true
is_fresh _ = false

-- of a link of mote `from`, but for memory
abbrev pub link_refusal : ℕ → Link → StepsView → Option StepsFault
link_refusal from link s =
    if not (is_fresh s.phase) then Some StepsFault.IsStarted
    else if s.free_links == 0 then Some StepsFault.NoRoom
    else if is_none (slice_get s.net.motes link.to) then Some StepsFault.BadLink
    else if may_add from link s.net.air then None
    else Some StepsFault.BadLink

abbrev pub due_refusal : ℕ → StepsView → Option StepsFault
due_refusal m s = if is_none (slice_get s.net.motes m) then Some StepsFault.NoMote else None
