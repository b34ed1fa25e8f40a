use Rattle.std.proofs.Common.{arith, ap, ◌∙◌, ◌≡◌, None}
use Rattle.kernel_core.proofs.Common.{callback_refusal, answer_done, mark}
use Rattle.kernel_core.proofs.Fitness.{renewed_one}
use Rattle.kernel_core.proofs.kernel_fields.KernelFields.set_callback.Goals as goal

pub returns-clause-machine : goal.returns-clause-machine
returns-clause-machine c =
    let accepted : callback_refusal c.args.number ≡ None = grind arith in
    rw accepted (c.answer.ensures.machine ∙ ap (answer_done c.args.pid.0) (rw c.mark.ensures.value (ap (mark 0)
    (renewed_one c.args.self.now c.set_callback.new.self _ c.requires.at_turn.events
    (ap (λ t. t.timers) (rw c.deref_mut.ensures.value at c.set_callback.ensures.changed))
    c.args.pid.0 c.args.number (rw c.deref_mut.ensures.value at c.set_callback.ensures.cancelled)
    (rw c.deref_mut.ensures.value at c.set_callback.ensures.others)))))
