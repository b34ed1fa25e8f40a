use Rattle.std.proofs.Common.{rules}
use Rattle.kernel_core.proofs.Reaching.{entry_is_shown, worked_apart}
use Rattle.kernel_core.proofs.kernel_fields.KernelFields.next.Goals as goal

pub returns-then-not-is_empty : goal.returns-then-not-is_empty
returns-then-not-is_empty c = record {
  awaits = search rules;
  opens = search rules;
  goes = λ is choices. entry_is_shown c.args.self.now c.take_first.new.self c.if-self.false c.take_first.ensures.first;
  worked = search rules;
}

pub returns-in_default-outcome : goal.returns-in_default-outcome
returns-in_default-outcome c = worked_apart _ _ _ c.in_default-outcome.not-Turn c.in-Some.ensures.works
