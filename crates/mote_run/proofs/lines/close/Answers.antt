use Rattle.std.proofs.Common.{rules, ◌≡◌, ◌++◌}
use Rattle.mote_run.proofs.Common.{append-nil, final_line}
use Rattle.mote_text.proofs.Writing.{lost_then, put_after, then_written, writes_as, writes_lost, writes_then}
use Rattle.mote_run.proofs.lines.close.Goals as goal

pub returns-in_err-make_room-clause-writes : goal.returns-in_err-make_room-clause-writes
returns-in_err-make_room-clause-writes g c = λ named.
    writes_lost c.from_residual.result _ c.from_residual.ensures.0
    (lost_then (final_line c.args.end) (c.in_err-make_room.ensures.writes named).1)

pub returns-clause-writes : goal.returns-clause-writes
returns-clause-writes g c = λ named.
    let line = final_line c.args.end in
    let pushed : c.push_final_line.new.line.items ≡ c.make_room.new.self.items ++ line = search rules in
    writes_as c.flush.result _ _ _ _ _ _ (append-nil line)
    (writes_then c.flush.result _ _ _ _ _ _ _ _
    (rw (← pushed) at (then_written (c.in_ok-make_room.ensures.writes named) (put_after _ _ line))) (c.flush.ensures.writes named))
