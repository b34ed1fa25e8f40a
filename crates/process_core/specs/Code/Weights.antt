-- Why `next_to` ends: the open work weighs more than what is left of it after one step that is no job.
use Rattle.std.specs.Prelude.{ℕ, ◌+◌, ◌*◌, true, false, List, [], ◌∷◌, length, drop, reverse, if◌then◌else◌}
use Rattle.process_core.specs.declared.open_work.Base.{Base}
use Rattle.process_core.specs.declared.open_work.Continuation.{Continuation}
use Rattle.process_core.specs.declared.scheduler_fields.SchedulerFields.{SchedulerFields}

abbrev pub continuation_weight : Continuation → ℕ
continuation_weight (Continuation.Leave pid walk exits) = length walk + (if exits then 2 else 1)
continuation_weight (Continuation.Answer pid) = 1

abbrev pub stack_weight : List Continuation → ℕ
stack_weight [] = 0
stack_weight (continuation ∷ below) = continuation_weight continuation + stack_weight below

-- A poll round is a walk over 20 processes at most
abbrev pub base_weight : Base → List ℕ → ℕ
base_weight Base.Nothing walk = 0
base_weight Base.Boot walk = length walk + 1
base_weight (Base.Deliver is_polled) walk = (if is_polled then 1350 else 1400)
base_weight (Base.Broadcast false) walk = 64 * length walk + 1
base_weight (Base.Broadcast true) walk = 64 * length (drop 1 walk) + 2

abbrev pub weight_over : SchedulerFields → List Continuation → ℕ
weight_over d stack = stack_weight stack + (length d.polls + base_weight d.base d.walk)

abbrev pub weight : SchedulerFields → ℕ
weight d = weight_over d (reverse d.stack.items)
