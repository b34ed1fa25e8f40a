-- A tick after which only etimer acts: it looks for due timers, and finds none.
use Rattle.std.specs.Prelude.{◌≡◌, ◌+◌, Bool, false, not}
use Rattle.mote_types.specs.declared.entry.Entry.{Entry}
use Rattle.mote_types.specs.declared.entry.Input.{Input}
use Rattle.kernel_core.specs.Code.Steps.{GoesToRest, MakesEntry}
use Rattle.kernel_core.specs.Inputs.{fed}
use Rattle.kernel_core.specs.Machine.{Machine}
use Rattle.kernel_core.specs.Run.{Choices}
use Rattle.kernel_core.specs.TimerProcesses.{is_any_due}

-- whether the input is a tick after which no timer is due
abbrev pub is_idle_tick : Input → Machine → Bool
is_idle_tick (Input.Tick n) m = not (is_any_due (record m { clock = m.clock + n }))
is_idle_tick _ m = false

-- the input is submitted and its entry is made; then steps that make none lead to rest
pub record RestsAfter (choices : Choices) (input : Input) (old new : Machine) : Type 0 where
  pub accepted : Machine
  pub entry : MakesEntry choices (fed input old) (Entry.Input input) accepted
  pub running : accepted.is_halted ≡ false
  pub rest : GoesToRest choices accepted new
