-- The run of the mote: the entries that its machine makes, from the inputs and the calls of the applications.
use Rattle.std.specs.Prelude.{◌≡◌, ℕ, zero, suc, ◌+◌, Bool, true, false, not, ◌&&◌, ◌||◌, List, [], ◌∷◌, ◌++◌, filter_map, Option, Some, None, option_to_list, if◌then◌else◌, ◌==◌}
use Rattle.mote_types.specs.Kinds.{ProcessNumber}
use Rattle.mote_types.specs.declared.call.Call.{Call}
use Rattle.mote_types.specs.declared.entry.Input.{Input}
use Rattle.mote_types.specs.declared.entry.Entry.{Entry}
use Rattle.mote_types.specs.declared.event.Stimulus.{Stimulus}
use Rattle.mote_types.specs.declared.event.Origin.{Origin}
use Rattle.mote_types.specs.Applications.{Applications}
use Rattle.kernel_core.specs.declared.config.Config.{Config}
use Rattle.process_core.specs.Agenda.{Item, Job}
use Rattle.process_core.specs.Idle.{is_idle}
use Rattle.process_core.specs.Scheduler.{after_front, job, in_front}
use Rattle.kernel_core.specs.Machine.{Machine, booted, scheduled}
use Rattle.kernel_core.specs.KernelProcesses.{serve}
use Rattle.kernel_core.specs.Calls.{after_call}
use Rattle.kernel_core.specs.Inputs.{fed}

-- the call of an application on a stimulus, by its number
abbrev pub Choices : Type 0
Choices = ProcessNumber → Stimulus → Call

-- a machine, and the entry that its last step made
abbrev pub StepMade : Type 0
StepMade = Machine × Option Entry

abbrev pub silent : Machine → StepMade
silent m = (m, None)

-- the turns and rounds of one input
abbrev pub work_limit : ℕ
work_limit = 10000

-- a turn or a round begins, unless the work is at its limit: then the run is halted instead
abbrev pub within_limit : Machine → StepMade → StepMade
within_limit m step = if m.work == work_limit then (record m { is_halted = true }, Some Entry.Halt) else step

abbrev pub with_more_work : Machine → Machine
with_more_work m = record m { work = m.work + 1 }

-- p takes a turn: its call is executed, and the turn is an entry
abbrev pub turn_taken : ProcessNumber → Origin → Stimulus → Call → Machine → StepMade
turn_taken p origin stimulus call m = (after_call call p (with_more_work m), Some (Entry.Turn (record { 0 = p }) origin stimulus call))

abbrev pub job_done : Choices → Option (Job Bool) → Machine → StepMade
job_done choices (Some (Job.TakeTurn p origin stimulus)) m = within_limit m (turn_taken p origin stimulus (choices p stimulus) m)
job_done choices (Some (Job.Serve p event)) m = silent (serve p event m)
job_done choices (Some (Job.CallBack p c is_cancelled)) m =
    silent (if is_cancelled then m else scheduled (in_front (Item.Give p Origin.Callback (Stimulus.Callback c) ∷ [])) m)
job_done choices (Some (Job.ShowEntry entry)) m = (m, Some entry)
job_done choices (Some Job.Round) m = within_limit m (silent (with_more_work m))
job_done choices (Some Job.Rest) m = silent m
job_done choices None m = silent m

-- one item of the agenda is executed
abbrev pub one_step : Choices → Machine → StepMade
one_step choices m = if m.is_halted then silent m else job_done choices (job m.scheduler) (scheduled after_front m)

-- no activation is open, no process is marked, and no event waits. After Halt there is no rest
abbrev pub is_at_rest : Machine → Bool
is_at_rest m = not m.is_halted && is_idle m.scheduler

-- nothing more happens without an input
abbrev pub is_still : Machine → Bool
is_still m = m.is_halted || is_at_rest m

abbrev pub stimulus_of : ProcessNumber → Entry → Option Stimulus
stimulus_of p (Entry.Turn pid origin stimulus call) = if pid.0 == p then Some stimulus else None
stimulus_of p _ = None

-- what p received in these entries
abbrev pub heard : ProcessNumber → List Entry → List Stimulus
heard p entries = filter_map (stimulus_of p) entries

-- each application makes its call on all that it received, and on this
abbrev pub choices_after : Applications → List Entry → Choices
choices_after says entries p stimulus = says p (heard p entries ++ stimulus ∷ [])

-- how far a run has got
pub record Running : Type 0 where
  pub machine : Machine
  pub entries : List Entry

abbrev pub gone_on : List Entry → StepMade → Running
gone_on entries step = record { machine = step.0; entries = entries ++ option_to_list step.1 }

abbrev pub after_step : Applications → Running → Running
after_step says r = gone_on r.entries (one_step (choices_after says r.entries) r.machine)

abbrev pub after_steps : Applications → ℕ → Running → Running
after_steps says zero r = r
after_steps says (suc n) r = after_steps says n (after_step says r)

-- n steps lead from old to new, where nothing more happens without an input
abbrev pub ComesToRest : Applications → Running → Running → Type 0
ComesToRest says old new = (n : ℕ) × (after_steps says n old ≡ new) × (is_still new.machine ≡ true)

abbrev pub with_input : Input → Running → Running
with_input input r = record r { machine = fed input r.machine }

-- from old to rest; then each input is submitted, and the machine goes on to rest again. After Halt nothing follows
abbrev pub Runs : Applications → Running → List Input → Running → Type 0
Runs says old [] new = ComesToRest says old new
Runs says old (input ∷ inputs) new =
    (rested : Running)
    × ComesToRest says old rested
    × (rested.machine.is_halted ≡ true → new ≡ rested)
    × (rested.machine.is_halted ≡ false → Runs says (with_input input rested) inputs new)

abbrev pub at_start : Config → Running
at_start c = record { machine = booted c; entries = [] }
