use Rattle.std.proofs.Common.{◌≡◌, false, refl, sym, ◌∙◌, ◌==◌}
use Rattle.kernel_core.proofs.Common.{decide, work_limit}
use Rattle.kernel_core.proofs.IdleRound.{order_polled, poll_passed}
use Rattle.kernel_core.proofs.kernel_fields.KernelFields.pass_idle_poll.Goals as goal

pub returns-clause-steps : goal.returns-clause-steps
returns-clause-steps c =
    let none = sym c.is_any_due.ensures.answer ∙ c.if-is_any_due.false in
    let room : (c.args.self.now.work == work_limit) ≡ false = grind (decide, c.if-self-eq-WORK_LIMIT.false) in
    let lone = c.polls_alone.ensures.round c.if-not-polls_alone.false in
    rw (c.pass_poll.ensures, c.is_any_due.ensures.kept) (record {
      passed = λ choices. poll_passed choices c.args.self.now c.requires.at_work.running c.requires.at_work.shown room none lone;
      order = order_polled c.args.self.now c.requires.at_work.order room;
      applications = refl;
    })
