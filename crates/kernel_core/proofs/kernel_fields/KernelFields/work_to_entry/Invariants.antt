use Rattle.std.proofs.Common.{◌≡◌, ◌≤◌, ◌*◌, ◌-◌, ◌+◌}
use Rattle.kernel_core.proofs.Common.{machine_of, entries_left_in, IsAtWork, Choices, work_limit, GoesSilently, present, costs, round_cost}
use Rattle.kernel_core.proofs.kernel_fields.KernelFields.work_to_entry.Given as goal

abbrev pub invariant-job : goal.invariant-job
invariant-job l = record {
  found : record {
    at_work : IsAtWork l.self;
    inputs : l.self.inputs ≡ l.fn.self.inputs;
    applications : l.self.scheduler.state.applications ≡ l.fn.self.scheduler.state.applications;
    clock : l.self.clock ≡ l.fn.self.clock;
    other : l.other ≡ l.fn.other;
    left : entries_left_in l.self ≤ entries_left_in l.fn.self;
  };
  so_far : (choices : Choices) → GoesSilently choices (machine_of l.fn.self) (machine_of l.self);
  present : present l.self.scheduler.state ≤ present l.fn.self.scheduler.state;
}

abbrev pub decreases-job : goal.decreases-job
decreases-job l =
    let bound = present l.fn.self.scheduler.state in
    (work_limit - l.self.work) * (round_cost bound + 1) + costs bound l.self.scheduler.state.agenda
