use Rattle.mote_session.specs.Code.Shown.{is_last_shown}
use Rattle.network_steps.specs.Code.StepLines.{last_entry_line}
use Rattle.network_steps.specs.NetworkText.{if_shown}
use Rattle.mote_text.proofs.Writing.{lost_then, writes_lost}
use Rattle.network_run.proofs.reports.put_line.Goals as goal

pub returns-in_err-make_room-clause-puts : goal.returns-in_err-make_room-clause-puts
returns-in_err-make_room-clause-puts g c = λ named.
    let cut = c.in_err-make_room.ensures.writes named in
    writes_lost c.from_residual.result _ c.from_residual.ensures.0 (lost_then (if_shown (is_last_shown c.args.quiet c.args.session.now.last) (last_entry_line c.args.mote c.args.session.now.last)) cut.1)
