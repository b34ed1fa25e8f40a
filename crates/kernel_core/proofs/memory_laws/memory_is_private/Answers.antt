use Rattle.kernel_core.proofs.memory_laws.memory_is_private.Goals as goal
use Rattle.kernel_core.proofs.run_laws.Callers.{blocks-own}
use Rattle.kernel_core.proofs.run_laws.Isolated.{alone-alike, alone-so-far}
use Rattle.kernel_core.proofs.run_laws.event_order.Runs.{ran}

pub returns-clause-own : goal.returns-clause-own
returns-clause-own c = λ config says inputs after runs. blocks-own (ran config says inputs after runs)

pub returns-clause-isolated : goal.returns-clause-isolated
returns-clause-isolated c = λ config says inputs after boots runs.
    record { alone_so_far = alone-so-far (ran config says inputs after runs) boots }

pub returns-clause-alike : goal.returns-clause-alike
returns-clause-alike c = λ config says inputs after boots runs. alone-alike (ran config says inputs after runs) boots
