use Rattle.process_core.proofs.Lemmas.{arith, nat_tests, length-map}
use Rattle.process_core.proofs.scheduler.Scheduler.has_room.Goals as goal

pub returns : goal.returns
returns c = rw (← c.self.view_is) (simp length-map (grind (arith, nat_tests, c.self.invariant.room)))
