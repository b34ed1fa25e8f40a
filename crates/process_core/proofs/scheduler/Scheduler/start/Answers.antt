use Rattle.process_core.proofs.Lemmas.{arith, room_on_stack}
use Rattle.process_core.proofs.scheduler.Scheduler.start.Goals as goal

pub push-requires : goal.push-requires
push-requires c = omega (arith, room_on_stack c.self.inside.fields c.self.invariant)
