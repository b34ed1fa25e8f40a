use Rattle.std.proofs.Common.{sym}
use Rattle.network_steps.proofs.Going.{all_reported, no_voices, refused_after, refused_by}
use Rattle.network_steps.proofs.Reports.{loss_reported, turn_refused}
use Rattle.network_steps.proofs.steps.NetworkSteps.next.Goals as goal

pub returns-in-Some-clause-went : goal.returns-in-Some-clause-went
returns-in-Some-clause-went c =
    loss_reported c.in-Some.came c.args.self.now c.next_loss.new.self c.in-Some.ensures.loss c.in-Some.ensures.some.0 c.in-Some.ensures.some.1

pub returns-in-Ok-clause-went : goal.returns-in-Ok-clause-went
returns-in-Ok-clause-went c =
    let g = c.in-Ok.ensures.went no_voices in all_reported c.in_default.ensures.none.0 c.in_default.ensures.none.1 g.goes

pub returns-then-is_some-clause-failed : goal.returns-then-is_some-clause-failed
returns-then-is_some-clause-failed c = turn_refused c.turn.result _ _ _ c.turn.ensures.some (sym c.if-is_some.ensures)

pub returns-in-Err-clause-failed : goal.returns-in-Err-clause-failed
returns-in-Err-clause-failed c =
    rw c.fault_of.ensures (refused_after c.args.self.now c.next_loss.new.self c.in_default.ensures.none.0 (refused_by (c.in-Err.ensures.failed no_voices)))
