use Rattle.kernel_core.proofs.EntriesLeft.{few_left}
use Rattle.kernel_core.proofs.awaiting_kernel.AwaitingKernel.entries_are_few.Goals as goal

pub returns : goal.returns
returns c = rw (← c.self.view_is) (few_left c.self.inside.fields.value)
