use Rattle.std.proofs.Common.{sym, ◌∙◌, arith}
use Rattle.kernel_core.proofs.IdleRound.{idle_tick}
use Rattle.kernel_core.proofs.kernel_fields.KernelFields.accept_idle_tick.Goals as goal

pub returns-clause-passed : goal.returns-clause-passed
returns-clause-passed c = λ done. λ choices.
    let none = sym
    c.is_any_due.ensures.answer
    ∙ c.if-is_any_due.false in
    let kept = c.is_any_due.ensures.kept in
    let rest = rw kept at (c.rest_goes_on.ensures.rest 0) in
    rw (c.in-Tick.is, kept)
    (idle_tick choices c.args.self.now c.in-Tick.ticks c.requires.at_work.running c.requires.at_work.shown none
    (rw kept at (c.rest_goes_on.ensures.round 0 (omega arith))) rest
    (rw kept at (c.rest_goes_on.ensures.same 0)) (rw kept at c.rest_goes_on.ensures.idle))
