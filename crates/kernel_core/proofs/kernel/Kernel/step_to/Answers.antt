use Rattle.std.proofs.Common.{rules, refl}
use Rattle.kernel_core.proofs.kernel.Kernel.step_to.Goals as goal

pub returns-in-Turn-clause-machine : goal.returns-in-Turn-clause-machine
returns-in-Turn-clause-machine g c =
    rw (← c.self.view_is, c.in-Turn.is, c.execute_call.ensures.machine, c.ask.ensures.answer) (c.next-outcome.ensures.awaits c.in-Turn.is _)

pub returns-in_default : goal.returns-in_default
returns-in_default g c = record {
  machine = rw (← c.self.view_is) (c.next-outcome.ensures.goes c.in_default.not-Turn _);
  law = λ p next later. rw (c.next-outcome.ensures.worked.untold c.in_default.not-Turn p) refl;
  others = λ p application unheard. refl;
  halted = search rules;
  clock = search rules;
  applications = search rules;
  inputs = search rules;
  progress = search rules;
  unmade = search rules;
}
