use Rattle.std.proofs.Common.{rules}
use Rattle.kernel_core.proofs.awaiting_kernel.AwaitingKernel.next.Goals as goal

pub returns-in-Turn-clause-awaits : goal.returns-in-Turn-clause-awaits
returns-in-Turn-clause-awaits c = λ is choices.
    rw (← c.self.view_is) (rw c.deref_mut.ensures.value at (c.next-outcome.ensures.awaits c.in-Turn.is choices))

pub returns-in_default : goal.returns-in_default
returns-in_default c = record {
  opens = λ is. absurd (c.in_default.not-Turn is);
  awaits = λ is. absurd (c.in_default.not-Turn is);
  application = λ is. absurd (c.in_default.not-Turn is);
  room = λ is. absurd (c.in_default.not-Turn is);
  closed = search rules;
  goes = λ other choices.
      rw (← c.self.view_is) (rw c.deref_mut.ensures.value at (c.next-outcome.ensures.goes c.in_default.not-Turn choices));
  untold = λ other p. c.next-outcome.ensures.worked.untold c.in_default.not-Turn p;
  halted = search rules;
  clock = search rules;
  applications = search rules;
  inputs = search rules;
  progress = search rules;
  unmade = search rules;
}
