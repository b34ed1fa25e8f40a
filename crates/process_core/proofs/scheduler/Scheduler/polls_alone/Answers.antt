use Rattle.process_core.proofs.Lemmas.{◌≡◌, true, both_true, sym, ◌∙◌, polls_alone, lone_poll}
use Rattle.process_core.proofs.scheduler.Scheduler.polls_alone.Goals as goal

pub returns-then-is_only_marked-clause-round : goal.returns-then-is_only_marked-clause-round
returns-then-is_only_marked-clause-round c = λ over.
    let alone : polls_alone c.args.pid.0 c.args.self.now.state ≡ true =
    rw (← c.self.view_is)
    (both_true (sym c.is_over.ensures ∙ over) (sym c.is_only_marked.ensures ∙ c.if-is_only_marked.true)) in
    lone_poll c.args.self.now.state c.args.pid.0 c.requires.kernel alone
