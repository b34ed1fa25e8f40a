use Rattle.network_steps.specs.NetworkText.{last_line}
use Rattle.mote_text.proofs.Writing.{lost_then, writes_lost}
use Rattle.network_run.proofs.reports.put_end.Goals as goal

pub returns-in_err-make_room-clause-puts : goal.returns-in_err-make_room-clause-puts
returns-in_err-make_room-clause-puts g c = λ named.
    let cut = c.in_err-make_room.ensures.writes named in
    writes_lost c.from_residual.result _ c.from_residual.ensures.0 (lost_then (last_line c.args.end) cut.1)
