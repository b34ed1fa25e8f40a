use Rattle.command_line.proofs.report.finish.Goals as goal

pub returns : goal.returns
returns g c = record { shown = c.show.result; is_shown = c.show.ensures; is_status = c.report_failure.ensures }
