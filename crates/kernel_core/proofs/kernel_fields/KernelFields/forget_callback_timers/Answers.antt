use Rattle.std.proofs.Common.{ap, ◌≡◌, Some, rules}
use Rattle.kernel_core.specs.Code.KernelEvents.{exited_numbered}
use Rattle.kernel_core.proofs.Fitness.{renewed_all}
use Rattle.kernel_core.proofs.kernel_fields.KernelFields.forget_callback_timers.Goals as goal

pub returns-in-Some-clause-machine : goal.returns-in-Some-clause-machine
returns-in-Some-clause-machine c =
    let e : exited_numbered c.args.number ≡ Some c.in-Some.pid.0 = search rules in
    rw e (renewed_all c.args.self.now c.forget_callbacks.new.self _ c.requires.events
    (ap (λ t. t.timers) (rw c.deref_mut.ensures.value at c.forget_callbacks.ensures.changed))
    c.in-Some.pid.0 (rw c.deref_mut.ensures.value at c.forget_callbacks.ensures.cancelled)
    (rw c.deref_mut.ensures.value at c.forget_callbacks.ensures.others))
