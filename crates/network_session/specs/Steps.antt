-- What a step does.
use Rattle.std.specs.Prelude.{◌≡◌, ℕ, ◌≤◌, ◌+◌, ◌-◌, Bool, true, false, List, slice_get, slice_set, Option, None, Some}
use Rattle.network_session.specs.Alarms.{earliest_in}
use Rattle.arrayvec.specs.ArrayVec.{ArrayVec}
use Rattle.medium_core.specs.Air.{Air, arrival, gone_on, landed, sent}
use Rattle.medium_core.specs.declared.flight.Flight.{Flight}
use Rattle.mote_types.specs.declared.call.Call.{Call}
use Rattle.mote_types.specs.declared.entry.Input.{Input}
use Rattle.mote_session.specs.Sent.{sent_in}
use Rattle.mote_session.specs.SessionView.{SessionView, rests}
use Rattle.mote_session.specs.Steps.{Advances, HasSameInputs, IsSubmitted, IsFed}
use Rattle.mote_session.specs.declared.session.Next.{Next}
use Rattle.kernel_core.specs.Code.Conditions.{ticks_of}
use Rattle.network_session.specs.Network.{NetworkView, wakes_of}
use Rattle.network_session.specs.Waking.{due_tick}
use Rattle.network_session.specs.declared.outcome.Outcome.{Outcome}

-- what is sent goes into the air, if anything is
abbrev pub aired_if : ℕ → Option (ArrayVec ℕ) → Air → Air
aired_if m None air = air
aired_if m (Some bytes) air = sent m bytes air

-- the air after a mote's step
abbrev pub aired : ℕ → Next → SessionView → Air → Air
aired m Next.Entry mote air = aired_if m (sent_in mote.last) air
aired m _ mote air = air

-- a mote is at work until it rests, or halts
abbrev pub active_after : ℕ → Next → Option ℕ
active_after m Next.Rest = None
active_after m Next.Halted = None
active_after m _ = Some m

-- one mote worked; the others are as they were
pub record WorkedIn (m : ℕ) (next : Next) (old new : List SessionView) : Type 0 where
  pub before : SessionView
  pub after : SessionView
  pub mote : slice_get old m ≡ Some before
  pub closed : before.turn ≡ None
  pub advances : Advances next before after
  pub same : HasSameInputs before after
  pub others : new ≡ slice_set old m after

-- one mote got an input; the others are as they were
pub record HandedIn (m : ℕ) (input : SessionView → Input) (old new : List SessionView) : Type 0 where
  pub before : SessionView
  pub after : SessionView
  pub mote : slice_get old m ≡ Some before
  pub rested : rests before ≡ true
  pub fed : IsFed (input before) before after
  pub others : new ≡ slice_set old m after

-- the call of one mote was submitted; the others are as they were
pub record SubmittedIn (m : ℕ) (call : Call) (old new : List SessionView) : Type 0 where
  pub before : SessionView
  pub after : SessionView
  pub mote : slice_get old m ≡ Some before
  pub submitted : IsSubmitted call before after
  pub same : HasSameInputs before after
  pub others : new ≡ slice_set old m after

-- the mote that is at work works on; what it sends goes into the air
pub record Worked (m : ℕ) (next : Next) (old new : NetworkView) : Type 0 where
  pub was_active : old.active ≡ Some m
  pub worked : WorkedIn m next old.motes new.motes
  pub result : new ≡ record old { motes = new.motes; air = aired m next worked.after old.air; active = active_after m next }

-- a mote gets the time
pub record IsToldTime (m : ℕ) (old new : NetworkView) : Type 0 where
  pub told : HandedIn m (due_tick old.air.clock) old.motes new.motes
  pub result : new ≡ record old { motes = new.motes; active = Some m; rounds = old.rounds - 1 }

-- a mote gets the frame that arrives
pub record HearsFrame (m : ℕ) (old new : NetworkView) : Type 0 where
  pub flight : Flight
  pub arrives : arrival old.air ≡ Some flight
  pub is_for : flight.to ≡ m
  pub handed : HandedIn m (λ mote. Input.Frame flight.bytes) old.motes new.motes
  pub result : new ≡ record old { motes = new.motes; air = landed old.air; active = Some m; rounds = old.rounds - 1 }

-- the call that a mote awaits for its turn is executed
pub record IsNetworkSubmitted (call : Call) (old new : NetworkView) : Type 0 where
  pub m : ℕ
  pub was_active : old.active ≡ Some m
  pub submitted : SubmittedIn m call old.motes new.motes
  pub result : new ≡ record old { motes = new.motes }

-- the call that was said is executed. Without one nothing happens
abbrev pub IsNetworkSubmittedIfSaid : Option Call → NetworkView → NetworkView → Type 0
IsNetworkSubmittedIfSaid None old new = new ≡ old
IsNetworkSubmittedIfSaid (Some call) old new = IsNetworkSubmitted call old new

-- a mote gets an input from outside
pub record IsNetworkFed (m : ℕ) (input : Input) (old new : NetworkView) : Type 0 where
  pub was_active : old.active ≡ None
  -- it is no tick, and the mote has got the time
  pub timeless : ticks_of input ≡ 0
  pub handed : HandedIn m (λ mote. input) old.motes new.motes
  pub on_time : old.air.clock ≤ handed.before.machine.clock
  pub result : new ≡ record old { motes = new.motes; active = Some m; rounds = old.bound }

abbrev pub Steps : Outcome → NetworkView → NetworkView → Type 0
Steps (Outcome.Started m) old new = new ≡ record old { active = Some m; started = m + 1 }
Steps (Outcome.Worked m next) old new = Worked m next old new
Steps (Outcome.Woken m) old new = IsToldTime m old new
Steps (Outcome.Heard m) old new = HearsFrame m old new
Steps (Outcome.Missed from to) old new = new ≡ record old { air = landed old.air; rounds = old.rounds - 1 }
-- to the next moment at which something happens
Steps Outcome.Clock old new =
    new ≡ record old { air = gone_on (earliest_in old.target (wakes_of old.motes)) old.air; rounds = old.rounds - 1 }
Steps Outcome.Rest old new = new ≡ old
Steps Outcome.Exhausted old new = new ≡ old

-- a step of the mote that is at work
abbrev pub is_work : Outcome → Bool
is_work (Outcome.Worked m next) = true
is_work _ = false
