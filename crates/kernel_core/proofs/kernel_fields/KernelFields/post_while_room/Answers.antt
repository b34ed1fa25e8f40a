use Rattle.std.proofs.Common.{rules, ◌∙◌}
use Rattle.kernel_core.proofs.Common.{post_first_due}
use Rattle.kernel_core.proofs.FreePlaces.{none_free, none_made, made_once}
use Rattle.kernel_core.proofs.kernel_fields.KernelFields.post_while_room.Goals as goal

pub returns-then-not-post_first_due-clause-machine : goal.returns-then-not-post_first_due-clause-machine
returns-then-not-post_first_due-clause-machine c =
    none_made c.post_first_due.ensures (search rules) ∙ c.loop-self.invariant.posted

pub loop-self-preserved : goal.loop-self-preserved
loop-self-preserved c = record {
  posted = made_once c.post_first_due.ensures (search rules) (search rules) ∙ c.loop-self.invariant.posted;
  kept = search rules;
}

pub returns-clause-machine : goal.returns-clause-machine
returns-clause-machine c = none_free post_first_due c.loop-self.self (search rules) ∙ c.loop-self.invariant.posted
