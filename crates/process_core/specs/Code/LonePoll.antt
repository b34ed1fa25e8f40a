-- A round that only polls one process of the kernel.
use Rattle.std.specs.Prelude.{ℕ, Bool, false, not, ◌&&◌, List, [], ◌∷◌, None}
use Rattle.mote_types.specs.EventNumbers.{POLL}
use Rattle.mote_types.specs.Codes.{plain_event}
use Rattle.process_core.specs.declared.process.Process.{Process}
use Rattle.process_core.specs.Agenda.{Item, Job}
use Rattle.process_core.specs.Idle.{is_empty}
use Rattle.process_core.specs.Processes.{is_marked, is_any_marked, with_mark}
use Rattle.process_core.specs.Scheduler.{Scheduler}
use Rattle.process_core.specs.Code.Items.{ComesTo}
use Rattle.process_core.specs.Code.Yields.{Yields}

-- p is marked, and no other process is
abbrev pub is_only_marked : ℕ → List Process → Bool
is_only_marked p list = is_marked p list && not (is_any_marked (with_mark p false list))

module _ {X : Type 0} where
  abbrev pub unmarked : ℕ → Scheduler X → Scheduler X
  unmarked p s = record s { processes = with_mark p false s.processes }

  -- nothing is on the agenda, and only p is marked
  abbrev pub polls_alone : ℕ → Scheduler X → Bool
  polls_alone p s = is_empty s.agenda && is_only_marked p s.processes

  -- the poll round is over: only the delivery is left, and p's mark is gone
  abbrev pub polled_alone : ℕ → Scheduler X → Scheduler X
  polled_alone p s = record s { processes = with_mark p false s.processes; agenda = Item.Deliver ∷ [] }

-- A round begins, p gets POLL, and where that changes nothing its poll round is over
pub record IsLonePoll {X : Type 0} (p : ℕ) (s : Scheduler X) : Type 0 where
  pub begun : Scheduler X
  pub served : Scheduler X
  pub round : ComesTo s Job.Round begun
  pub poll : ComesTo begun (Job.Serve p (plain_event POLL)) served
  pub over : Yields served None (polled_alone p s)
