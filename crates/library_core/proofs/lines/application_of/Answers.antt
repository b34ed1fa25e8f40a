use Rattle.std.proofs.Common.{ℕ, List}
use Rattle.call_lists.specs.Faults.{IsNoName, TellsNoName}
use Rattle.call_lists.specs.declared.fault.CallFault.{CallFault}
use Rattle.library_core.proofs.lines.application_of.Goals as goal

told_none : (line : List ℕ) (fault : CallFault) → TellsNoName line fault → IsNoName line
told_none line (CallFault.NoApplication told) tells = tells.1
told_none line fault tells = absurd tells

pub returns-in-Err-named-clause-none : goal.returns-in-Err-named-clause-none
returns-in-Err-named-clause-none c = (
  (told_none c.args.line.now c.in-Err-named.field-0 c.in-Err-named.ensures.none, λ text has. absurd (c.in-None.ensures.has_none text has)),
  c.in-None.ensures.has_none,
)
