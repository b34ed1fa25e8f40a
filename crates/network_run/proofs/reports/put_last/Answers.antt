use Rattle.std.proofs.Common.{ap}
use Rattle.network_steps.specs.Lines.{shown_entry}
use Rattle.mote_text.proofs.Writing.{writes_as}
use Rattle.network_run.proofs.reports.put_last.Goals as goal

pub returns-in-Some-clause-puts : goal.returns-in-Some-clause-puts
returns-in-Some-clause-puts g c = λ named.
    writes_as c.put_line.result _ _ _ _ _ _ (ap (shown_entry c.args.quiet c.args.mote) c.in-Some.ensures) (c.put_line.ensures.puts named)
