-- Walks over the process list, and which process is next.
use Rattle.std.specs.Prelude.{ℕ, Bool, true, false, not, ◌&&◌, ◌==◌, List, [], ◌∷◌, length, if◌then◌else◌}
use Rattle.process_core.specs.declared.open_work.Base.{Base}
use Rattle.process_core.specs.declared.process.Process.{Process}
use Rattle.process_core.specs.declared.scheduler_fields.SchedulerFields.{SchedulerFields}
use Rattle.process_core.specs.Idle.{is_empty}
use Rattle.process_core.specs.Code.OpenWork.{front_items}
use Rattle.process_core.specs.Processes.{is_any_marked, is_kernel_process, is_marked}
use Rattle.process_core.specs.Code.KernelReceivers.{is_other_event}

-- a walk from its first marked process on
abbrev pub from_marked : List Process → List ℕ → List ℕ
from_marked list [] = []
from_marked list (p ∷ walk) = if is_marked p list then p ∷ walk else from_marked list walk

-- a walk from its first application on
abbrev pub from_application : List ℕ → List ℕ
from_application [] = []
from_application (p ∷ walk) = if is_kernel_process p then from_application walk else p ∷ walk

-- whether one of the kernel's processes is next on a walk
abbrev pub is_kernel_next : List ℕ → Bool
is_kernel_next [] = false
is_kernel_next (p ∷ walk) = is_kernel_process p

abbrev pub is_broadcast : Base → Bool
is_broadcast (Base.Broadcast false) = true
is_broadcast _ = false

-- whether a receiver of a broadcast is next, if one is left, with a poll round before it
abbrev pub receiver_is_next : SchedulerFields → Bool
receiver_is_next d =
    is_empty (front_items d.front d.reply d.synch) && ((length d.stack.items == 0) && (is_empty d.polls && is_broadcast d.base))

-- whether a process of the kernel is the next receiver of an event with another code than these, and nothing is before it
abbrev pub passes_receiver : List ℕ → SchedulerFields → Bool
passes_receiver codes d =
    is_kernel_next d.walk && (not (is_any_marked d.processes) && (receiver_is_next d && is_other_event codes d.broadcast))
