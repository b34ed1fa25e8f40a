-- How many entries a mote can make before it rests.
use Rattle.std.proofs.Common.{◌≤◌, ℕ, ◌+◌, ◌*◌, ◌-◌, arith, Bool, true, false, Option, Some, None, if◌then◌else◌}
use Rattle.mote_types.specs.declared.entry.Input.{Input}
use Rattle.mote_types.specs.declared.entry.Note.{Note}
use Rattle.kernel_core.specs.Code.Pending.{Pending, pending_count}
use Rattle.kernel_core.specs.Code.View.{entries_left_in}
use Rattle.kernel_core.specs.Code.Conditions.{most_entries_left}
use Rattle.kernel_core.specs.Run.{work_limit}
use Rattle.kernel_core.specs.declared.kernel_fields.KernelFields.{KernelFields}

few_by : (input : Option Input) (note : Option Note) → pending_count (record { input = input; note = note }) ≤ 2
few_by None None = omega arith
few_by None (Some note) = omega arith
few_by (Some input) None = omega arith
few_by (Some input) (Some note) = omega arith

-- an input and a note at most are still to be shown
few_pending : (pending : Pending) → pending_count pending ≤ 2
few_pending pending = few_by pending.input pending.note

few_if : (halted : Bool) (work : ℕ) (pending : Pending) →
    (if halted then 0 else 1 + 2 * (work_limit - work) + pending_count pending) ≤ most_entries_left
few_if true work pending = omega arith
few_if false work pending = let few = few_pending pending in omega (arith, few)

pub few_left : (k : KernelFields) → entries_left_in k ≤ most_entries_left
few_left k = few_if k.halted k.work k.pending
