-- What one call of a session does.
use Rattle.std.specs.Prelude.{◌≡◌, ℕ, ◌+◌, ◌≤◌, ◌<◌, ◌||◌, true, [], ◌∷◌, Option, Some, None}
use Rattle.mote_types.specs.declared.call.Call.{Call}
use Rattle.mote_types.specs.declared.entry.Entry.{Entry}
use Rattle.mote_types.specs.declared.entry.Input.{Input}
use Rattle.mote_types.specs.Entries.{is_halt}
use Rattle.process_core.specs.Code.Conditions.{IsApplication}
use Rattle.kernel_core.specs.Calls.{after_call}
use Rattle.kernel_core.specs.Code.OpenTurns.{AwaitsCall}
use Rattle.kernel_core.specs.Code.Steps.{GoesToRest, MakesEntry}
use Rattle.kernel_core.specs.Inputs.{fed}
use Rattle.kernel_core.specs.Run.{Choices, heard}
use Rattle.mote_session.specs.History.{History, with_entry}
use Rattle.mote_session.specs.SessionView.{AwaitedCall, SessionView}
use Rattle.mote_session.specs.declared.session.Next.{Next}

-- the same number of inputs was fed
abbrev pub HasSameInputs : SessionView → SessionView → Type 0
HasSameInputs old new = (new.inputs ≡ old.inputs) × (new.machine.clock ≡ old.machine.clock)

-- an application receives this, and its call is awaited
pub record OpensTurn (old new : SessionView) : Type 0 where
  pub turn : AwaitedCall
  pub opened : new.turn ≡ Some turn
  pub application : IsApplication old.machine.scheduler.applications turn.process.0
  -- whatever the call
  pub awaits : (choices : Choices) → AwaitsCall choices old.machine turn.process turn.origin turn.stimulus new.machine
  pub last : new.last ≡ None
  -- the turn is an entry less that can be made, and its call makes a note at most
  pub left : new.entries_left + 2 ≤ old.entries_left

-- an entry is made that is no turn
pub record MakesOther (old new : SessionView) : Type 0 where
  pub entry : Entry
  pub made : (choices : Choices) → MakesEntry choices old.machine entry new.machine
  pub last : new.last ≡ Some entry
  pub untold : (p : ℕ) → heard p (entry ∷ []) ≡ []
  pub halted : new.machine.is_halted ≡ (old.machine.is_halted || is_halt entry)
  pub closed : new.turn ≡ None
  pub left : new.entries_left < old.entries_left

-- the mote reaches rest
pub record RestsAt (old new : SessionView) : Type 0 where
  pub goes : (choices : Choices) → GoesToRest choices old.machine new.machine
  pub last : new.last ≡ old.last
  pub closed : new.turn ≡ None

-- the mote was halted before, and nothing happens
pub record StaysHalted (old new : SessionView) : Type 0 where
  pub halted : old.machine.is_halted ≡ true
  pub machine : new.machine ≡ old.machine
  pub last : new.last ≡ old.last
  pub closed : new.turn ≡ None

-- the result of `next`
abbrev pub Advances : Next → SessionView → SessionView → Type 0
Advances Next.Turn old new = OpensTurn old new
Advances Next.Entry old new = MakesOther old new
Advances Next.Rest old new = RestsAt old new
Advances Next.Halted old new = StaysHalted old new

-- the entry that was made
abbrev pub with_made : Next → Option Entry → History → History
with_made Next.Entry (Some entry) history = with_entry entry history
with_made _ _ history = history

-- the call of the turn that awaits it is executed
pub record IsSubmitted (call : Call) (old new : SessionView) : Type 0 where
  pub turn : AwaitedCall
  pub awaited : old.turn ≡ Some turn
  pub machine : new.machine ≡ after_call call turn.process.0 old.machine
  pub last : new.last ≡ Some (Entry.Turn turn.process turn.origin turn.stimulus call)
  pub closed : new.turn ≡ None
  pub left : new.entries_left ≤ old.entries_left + 1

-- the call that was said is executed. Without one nothing happens
abbrev pub IsSubmittedIfSaid : Option Call → SessionView → SessionView → Type 0
IsSubmittedIfSaid None old new = new ≡ old
IsSubmittedIfSaid (Some call) old new = IsSubmitted call old new × HasSameInputs old new

-- an input is fed at rest
pub record IsFed (input : Input) (old new : SessionView) : Type 0 where
  pub machine : new.machine ≡ fed input old.machine
  pub inputs : new.inputs ≡ old.inputs + 1
  pub closed : new.turn ≡ None
  pub last : new.last ≡ old.last

-- what a line says is fed
abbrev pub TakesLine : Option (Option Input) → SessionView → SessionView → Type 0
TakesLine None old new = ⊥
TakesLine (Some None) old new = new ≡ old
TakesLine (Some (Some input)) old new = IsFed input old new
