use Rattle.std.proofs.Common.{rules}
use Rattle.kernel_core.proofs.IdleReceivers.{receivers_passed, order_passed, present_passed}
use Rattle.kernel_core.proofs.kernel_fields.KernelFields.pass_idle_receivers.Goals as goal

pub returns-in-Wait-clause-steps : goal.returns-in-Wait-clause-steps
returns-in-Wait-clause-steps c =
    rw c.pass_kernel_receivers.ensures (record {
      passed = λ choices. receivers_passed choices c.args.self.now c.requires.at_work.running c.requires.at_work.shown;
      order = order_passed c.args.self.now c.requires.at_work.order;
      applications = search rules;
    })

pub returns-in-Wait-clause-present : goal.returns-in-Wait-clause-present
returns-in-Wait-clause-present c =
    rw c.pass_kernel_receivers.ensures (present_passed c.args.self.now.scheduler.state)
