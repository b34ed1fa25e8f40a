use Rattle.process_core.proofs.Lemmas.{true, marked_from_running, order_marked}
use Rattle.process_core.proofs.scheduler.Scheduler.mark.Goals as goal

pub invariant_of-self : goal.invariant_of-self
invariant_of-self c = order_marked c.self.inside.fields c.set_mark.new.self c.args.pid.0 true c.self.invariant c.set_mark.ensures

pub returns-clause-is_marked : goal.returns-clause-is_marked
returns-clause-is_marked c =
    marked_from_running c.args.pid.0 c.self.inside.fields.processes c.set_mark.new.self
    (c.self.invariant.sound.mote.kernel c.args.pid.0 c.requires) c.set_mark.ensures
