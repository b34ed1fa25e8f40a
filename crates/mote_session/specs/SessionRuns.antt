-- What a session promises: its entries are those of the machine's run.
use Rattle.std.specs.Prelude.{◌≡◌, ℕ, true, false, List, [], ◌∷◌, ◌++◌, length, Option, None, Some}
use Rattle.mote_types.specs.declared.entry.Entry.{Entry}
use Rattle.mote_types.specs.declared.entry.Input.{Input}
use Rattle.mote_types.specs.Applications.{Applications}
use Rattle.kernel_core.specs.Code.OpenTurns.{AwaitsCall}
use Rattle.kernel_core.specs.Machine.{Machine, is_bootable}
use Rattle.kernel_core.specs.Run.{Choices, ComesToRest, Running, Runs, after_steps, at_start, with_input}
use Rattle.kernel_core.specs.Laws.RunLaws.{KeepsLaws}
use Rattle.mote_session.specs.Answered.{AnswersAs, replayed}
use Rattle.mote_session.specs.History.{History, last_entry}
use Rattle.mote_session.specs.SessionView.{AwaitedCall, SessionView, is_settled}

-- from old on each of these inputs is fed at rest, and n steps after the last one lead to new
abbrev pub Leads : Applications → Running → List Input → Running → Type 0
Leads says old [] new = (n : ℕ) × (after_steps says n old ≡ new)
Leads says old (input ∷ inputs) new =
    (rested : Running) × ComesToRest says old rested × (rested.machine.is_halted ≡ false) × Leads says (with_input input rested) inputs new

-- with any applications that make these calls, the machine reaches this state from boot by these inputs, and makes these entries
abbrev pub HasComeTo : History → Machine → Type 0
HasComeTo history machine =
    (says : Applications) → AnswersAs says history.entries →
    Leads says (at_start history.config) history.inputs (record { machine = machine; entries = history.entries })

-- It has reached this state; or one from which it goes on to this turn, whatever its call
abbrev pub StandsAt : History → Option AwaitedCall → Machine → Type 0
StandsAt history None machine = HasComeTo history machine
StandsAt history (Some turn) machine =
    (before : Machine)
    × HasComeTo history before
    × ((choices : Choices) → AwaitsCall choices before turn.process turn.origin turn.stimulus machine)

-- this is what a session was fed and made
pub record IsHistoryOf (history : History) (session : SessionView) : Type 0 where
  pub bootable : is_bootable history.config ≡ true
  pub stands : StandsAt history session.turn session.machine
  pub inputs : session.inputs ≡ length history.inputs
  pub last : session.turn ≡ None → session.last ≡ last_entry history.entries

-- The machine's run of these applications on the inputs that were fed: the entries are a prefix of its own, all of them at rest
-- and after Halt; and the laws hold of them
pub record RunSoFar (says : Applications) (history : History) (session : SessionView) : Type 0 where
  pub last : Running
  pub runs : Runs says (at_start history.config) history.inputs last
  pub later : List Entry
  pub front : last.entries ≡ history.entries ++ later
  pub whole : is_settled session ≡ true → (later ≡ []) × (last.machine ≡ session.machine)
  pub laws : KeepsLaws history.config last.entries

-- it is so for any applications that make the submitted calls, and there are such applications
pub record SessionPromise (history : History) (session : SessionView) : Type 0 where
  pub run : (says : Applications) → AnswersAs says history.entries → RunSoFar says history session
  pub answered : AnswersAs (replayed history.entries) history.entries

-- this is its history, and the promise holds
abbrev pub KeepsPromise : History → SessionView → Type 0
KeepsPromise history session = IsHistoryOf history session × SessionPromise history session
