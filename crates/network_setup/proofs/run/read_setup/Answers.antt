use Rattle.std.proofs.Common.{rules}
use Rattle.network_setup.proofs.SettingUp.{does, no_text, says_nothing}
use Rattle.network_setup.proofs.run.read_setup.Goals as goal

pub returns-in_default-text-clause-bad_line : goal.returns-in_default-text-clause-bad_line
returns-in_default-text-clause-bad_line c = λ same.
    no_text c.loop-line.invariant.1 c.in-Some.ensures.line c.in-Some.ensures.numbered c.in_default-text.is

pub returns-in-Err-clause-bad_line : goal.returns-in-Err-clause-bad_line
returns-in-Err-clause-bad_line c = λ same.
    says_nothing c.loop-line.invariant.1 c.in-Some.ensures.line c.in-Some.ensures.numbered c.in-Some-text.text c.in-Some-text.is (search rules)
    c.in-Err.fault same c.in-Err.ensures.malformed

pub loop-line-preserved : goal.loop-line-preserved
loop-line-preserved c = (
  c.in-Some.ensures.within,
  does c.loop-line.invariant.1 c.in-Some.ensures.line c.in-Some.ensures.number c.in-Some-text.text c.in-Some-text.is (search rules) _
      c.in_default-take_setup_line.ensures.done,
)
