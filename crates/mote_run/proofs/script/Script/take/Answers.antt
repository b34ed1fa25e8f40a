use Rattle.std.proofs.Common.{arith}
use Rattle.mote_run.proofs.Common.{length-drop, length-take}
use Rattle.mote_run.proofs.GivenBytes.{part_can_be_fed}
use Rattle.mote_run.proofs.ReadOn.{endless_after, takes}
use Rattle.mote_run.proofs.script.Script.take.Goals as goal

pub returns-clause-takes : goal.returns-clause-takes
returns-clause-takes c = grind (arith, takes)

pub returns-clause-input : goal.returns-clause-input
returns-clause-input c = part_can_be_fed c.take-used.result.1 c.take-used.ensures.says

pub returns-clause-ready : goal.returns-clause-ready
returns-clause-ready c = grind (arith, endless_after, length-take)

pub returns-clause-some : goal.returns-clause-some
returns-clause-some c = grind arith

pub returns-clause-bytes : goal.returns-clause-bytes
returns-clause-bytes c = grind (arith, length-take, length-drop)
