-- What is always so of the process list and of the scheduler.
use Rattle.std.specs.Prelude.{ℕ, ◌+◌, ◌<◌, ◌≡◌, Bool, true, false, List, ◌||◌, ◌≤◌, eqb}
use Rattle.std.specs.List.{list_any, IsDistinct}
use Rattle.process_core.specs.declared.state.State.{State}
use Rattle.process_core.specs.declared.process.Process.{Process}
use Rattle.process_core.specs.Processes.{state_of, numbers, is_ending}
use Rattle.process_core.specs.Agenda.{Item}
use Rattle.process_core.specs.Scheduler.{Scheduler}

abbrev pub is_called : State → Bool
is_called State.Called = true
is_called _ = false

-- The kernel's processes always run, and any other process on the list is an application
pub record IsOfMote (applications : ℕ) (list : List Process) : Type 0 where
  pub kernel : (p : ℕ) → p < 4 → state_of p list ≡ State.Running
  pub known : (p : ℕ) → (state_of p list ≡ State.Absent → ⊥) → p < 4 + applications

-- it has taken a turn, and its activation goes on
abbrev pub is_in_activation : State → Bool
is_in_activation state = is_called state || is_ending state

abbrev pub is_shown : Item → Bool
is_shown (Item.Show entry) = true
is_shown _ = false

-- what is true of the scheduler at any time
pub record IsWellFormed {X : Type 0} (s : Scheduler X) : Type 0 where
  pub few : s.applications ≤ 16
  pub mote : IsOfMote s.applications s.processes
  -- no process is on the list twice
  pub distinct : IsDistinct eqb (numbers s.processes)
  -- entries are shown by the layer above
  pub nothing_shown : list_any is_shown s.agenda ≡ false
