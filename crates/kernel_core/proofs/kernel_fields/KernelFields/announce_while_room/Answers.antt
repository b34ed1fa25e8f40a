use Rattle.std.proofs.Common.{rules, ◌∙◌}
use Rattle.kernel_core.proofs.Common.{announce_next}
use Rattle.kernel_core.proofs.FreePlaces.{none_free, none_made, made_once}
use Rattle.kernel_core.proofs.kernel_fields.KernelFields.announce_while_room.Goals as goal

pub returns-then-not-announce_next-clause-machine : goal.returns-then-not-announce_next-clause-machine
returns-then-not-announce_next-clause-machine c =
    none_made c.announce_next.ensures (search rules) ∙ c.loop-self.invariant.told

pub loop-self-preserved : goal.loop-self-preserved
loop-self-preserved c = record {
  told = made_once c.announce_next.ensures (search rules) (search rules) ∙ c.loop-self.invariant.told;
  kept = search rules;
}

pub returns-clause-machine : goal.returns-clause-machine
returns-clause-machine c = none_free announce_next c.loop-self.self (search rules) ∙ c.loop-self.invariant.told
