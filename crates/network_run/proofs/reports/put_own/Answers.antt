use Rattle.std.proofs.Common.{not}
use Rattle.network_steps.specs.Lines.{came_line}
use Rattle.network_steps.specs.NetworkText.{if_shown}
use Rattle.mote_text.proofs.Writing.{lost_then, writes_lost}
use Rattle.network_run.proofs.reports.put_own.Goals as goal

pub returns-in_err-make_room-clause-puts : goal.returns-in_err-make_room-clause-puts
returns-in_err-make_room-clause-puts g c = λ named.
    let cut = c.in_err-make_room.ensures.writes named in
    writes_lost c.from_residual.result _ c.from_residual.ensures.0 (lost_then (if_shown (not c.args.quiet) (came_line c.args.came c.args.network.now)) cut.1)
