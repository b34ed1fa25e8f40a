-- What the entries of a run show an application, law by law.
use Rattle.std.specs.Prelude.{◌≡◌, ◌≤◌, ℕ, true, false, List, ◌∷◌, ◌++◌, take, Option, Some}
use Rattle.arrayvec.specs.ArrayVec.{ArrayVec}
use Rattle.mote_types.specs.Applications.{Applications}
use Rattle.mote_types.specs.declared.entry.Entry.{Entry}
use Rattle.mote_types.specs.declared.entry.Input.{Input}
use Rattle.mote_types.specs.declared.entry.Note.{Note}
use Rattle.mote_types.specs.declared.event.Event.{Event}
use Rattle.process_core.specs.Processes.{is_application}
use Rattle.kernel_core.specs.declared.config.Config.{Config}
use Rattle.kernel_core.specs.Machine.{is_bootable}
use Rattle.kernel_core.specs.Run.{Running, Runs, at_start}
use Rattle.kernel_core.specs.Laws.Deeds.{managed_touch, heap_touch}
use Rattle.kernel_core.specs.Laws.MemoryLaws.{AreOwn}
use Rattle.kernel_core.specs.Laws.Sent.{IsSent}
use Rattle.kernel_core.specs.Laws.EventLaws.{IsAtRest, accepted_events, given_events, has_ended}
use Rattle.kernel_core.specs.Laws.TimerLaws.{clock_after, is_ripe, ripe_by, standing, timer_events}
use Rattle.kernel_core.specs.Laws.Isolation.{managed_calls, managed_replies, IsAnsweredAlone}

-- memory: managed blocks, heap blocks, and frames
pub record BlocksAreOwn (X : List Entry) : Type 0 where
  pub managed : AreOwn managed_touch X
  pub heap : AreOwn heap_touch X
  -- each frame that was sent was a block of its sender then
  pub sent : (before later : List Entry) (bytes : ArrayVec ℕ) → before ++ Entry.Note (Note.Sent bytes) ∷ later ≡ X → IsSent before bytes

-- managed memory for each of n applications, where each process has a quota of b bytes, if it has one
pub record ProcessesAreIsolated (quota : Option ℕ) (applications : ℕ) (X : List Entry) : Type 0 where
  -- in each prefix of X, and so in X
  pub alone_so_far : (bytes p : ℕ) (before later : List Entry) → quota ≡ Some bytes → is_application applications p ≡ true
      → before ++ later ≡ X → IsAnsweredAlone bytes p before

-- events, for each of n applications, as long as it hasn't ended
pub record EventsArriveInOrder (applications : ℕ) (X : List Entry) : Type 0 where
  -- what it received is a prefix of the events accepted for it
  pub in_order : (p : ℕ) → is_application applications p ≡ true → (before later : List Entry) → before ++ later ≡ X
      → has_ended p before ≡ false → (waiting : List Event) × (given_events before p ++ waiting ≡ accepted_events p before)
  -- at rest, all of them
  pub none_lost : (p : ℕ) → is_application applications p ≡ true → (before : List Entry) → IsAtRest X before
      → has_ended p before ≡ false → given_events before p ≡ accepted_events p before

-- and their event timers
pub record TimersAreKept (applications : ℕ) (X : List Entry) : Type 0 where
  -- no more TIMER events than armings whose deadline came while they lasted
  pub not_early : (p : ℕ) → is_application applications p ≡ true → (before later : List Entry) (t : ℕ) → before ++ later ≡ X
      → timer_events before p t ≤ ripe_by (clock_after before) (standing before p t)
  -- at rest, a TIMER event was delivered after an arming whose deadline has come
  pub not_lost : (p : ℕ) → is_application applications p ≡ true → (before : List Entry) (t : ℕ) → IsAtRest X before
      → has_ended p before ≡ false → is_ripe (clock_after before) (standing before p t) ≡ true → (standing before p t).was_given ≡ true

-- beside any other run of a mote with the same quota, of whatever applications over whatever inputs: where the first n calls of a process
-- on managed memory are the same, so are their replies; and where all are, all replies
abbrev pub IsAnsweredAlike : Option ℕ → ℕ → List Entry → Type 0
IsAnsweredAlike quota applications X =
    (other : Config) (tells : Applications) (inputs : List Input) (last : Running) (bytes p : ℕ)
    → quota ≡ Some bytes → is_application applications p ≡ true
    → Runs tells (at_start other) inputs last → is_bootable other ≡ true → other.quota ≡ Some bytes → is_application other.apps p ≡ true
    → (n : ℕ) → take n (managed_calls p X) ≡ take n (managed_calls p last.entries)
    → take n (managed_replies p X) ≡ take n (managed_replies p last.entries)

-- the laws of the machine's runs, which the entries of one obey
pub record KeepsLaws (config : Config) (entries : List Entry) : Type 0 where
  pub memory : BlocksAreOwn entries
  pub events : EventsArriveInOrder config.apps entries
  pub timers : TimersAreKept config.apps entries
  pub isolation : ProcessesAreIsolated config.quota config.apps entries
  pub alike : IsAnsweredAlike config.quota config.apps entries
