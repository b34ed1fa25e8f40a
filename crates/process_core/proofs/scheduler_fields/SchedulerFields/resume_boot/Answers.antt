use Rattle.process_core.proofs.Lemmas.{order_booting}
use Rattle.process_core.proofs.scheduler_fields.SchedulerFields.resume_boot.Goals as goal

pub start_one-requires-clause-known : goal.start_one-requires-clause-known
start_one-requires-clause-known c =
    (order_booting c.args.self.now c.in-Some.pid.0 c.advance.new.self c.requires.bare.base c.in-Some.ensures c.requires.order).0

pub start_one-requires-clause-order : goal.start_one-requires-clause-order
start_one-requires-clause-order c =
    (order_booting c.args.self.now c.in-Some.pid.0 c.advance.new.self c.requires.bare.base c.in-Some.ensures c.requires.order).1
