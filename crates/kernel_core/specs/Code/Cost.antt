-- A measure of what is on the agenda: it falls with each item that is worked off. It bounds the work of one step.
use Rattle.std.specs.Prelude.{ℕ, ◌+◌, ◌*◌, ◌≤◌, List, length, Option, Some}
use Rattle.process_core.specs.Agenda.{Item, Job}
use Rattle.process_core.specs.Scheduler.{Scheduler}
use Rattle.kernel_core.specs.Code.Totals.{total}

abbrev pub starts_of : Item → ℕ
starts_of (Item.Start p) = 1
starts_of _ = 0

-- the processes that are still to be started
abbrev pub starts : List Item → ℕ
starts items = total starts_of items

-- the largest number of processes on the list: those that are on it, and those that are not started yet
abbrev pub present : {X : Type 0} → Scheduler X → ℕ
present s = length s.processes + starts s.agenda

-- The largest number of steps that an item leads to, not counting turns, with at most `bound` processes on the list.
module _ (bound : ℕ) where
  abbrev pub cost : Item → ℕ
  cost (Item.Start p) = 3
  cost (Item.Give p origin stimulus) = 2
  cost (Item.Turn p origin stimulus) = 1
  cost (Item.GiveExit p) = 2
  cost (Item.Remove p) = 1
  cost Item.Polls = 3 * bound + 1
  cost (Item.PollOne p) = 3
  cost Item.Deliver = (3 * bound + 3) * bound + 4
  cost (Item.Show entry) = 1

  unfoldable pub costs : List Item → ℕ
  costs items = total cost items

  -- what a round puts on the agenda
  abbrev pub round_cost : ℕ
  round_cost = (3 * bound + 3) * bound + 3 * bound + 5

  -- What a job was worth, against what it left on the agenda. A callback is put there afterwards.
  abbrev pub IsPaid : {X : Type 0} → Option (Job X) → ℕ → ℕ → Type 0
  IsPaid (Some Job.Round) old new = new ≤ round_cost
  IsPaid (Some Job.Rest) old new = new ≤ old
  IsPaid (Some (Job.CallBack p c x)) old new = new + 3 ≤ old
  IsPaid _ old new = new + 1 ≤ old
