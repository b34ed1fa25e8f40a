use Rattle.process_core.proofs.Lemmas.{sym, false, scheduler_behind, finds_from, order_marked, poll_one_yields}
use Rattle.process_core.proofs.scheduler_fields.SchedulerFields.poll_one.Goals as goal

pub give-requires-clause-order : goal.give-requires-clause-order
give-requires-clause-order c =
    order_marked c.args.self.now c.set_mark.new.self c.args.pid.0 false c.requires.order c.set_mark.ensures

pub returns-clause-finds : goal.returns-clause-finds
returns-clause-finds c =
    rw c.plain_event.ensures
    (finds_from (poll_one_yields (scheduler_behind c.args.self.now) c.args.pid.0 _ _ (sym c.if-not-is_marked.ensures))
    (rw (c.set_mark.ensures, c.plain_event.ensures) at c.give.ensures.finds))
