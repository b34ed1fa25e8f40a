use Rattle.network_run.specs.Code.Way.{moment}
use Rattle.mote_text.specs.Script.{script_lines}
use Rattle.network_run.proofs.Closing.{fault_at_start, exhausted_at_start, started}
use Rattle.network_run.proofs.Running.{none_carried}
use Rattle.network_run.proofs.Ways.{fault_on}
use Rattle.network_run.proofs.run.carry_out.Goals as goal

pub returns-in_err-run_to_rest-clause-runs : goal.returns-in_err-run_to_rest-clause-runs
returns-in_err-run_to_rest-clause-runs g c = λ named.
    fault_on c.from_residual.result _ _ _ c.from_residual.ensures.1 (fault_at_start c.args.quiet _ _ _ _ (rw c.requires.none at (c.in_err-run_to_rest.ensures.takes named)))

pub returns-then-branch-clause-runs : goal.returns-then-branch-clause-runs
returns-then-branch-clause-runs g c = λ named.
    started c.args.quiet c.take_lines.result c.args.first (script_lines c.args.script.now) _ _
    (moment (g.K.ByteSink.given c.take_lines.new.sink) c.take_lines.new.text.items c.take_lines.new.steps.net (g.H.Caller.voices c.take_lines.new.caller))
    (none_carried (rw c.requires.none at (c.in_ok-run_to_rest.ensures.takes named))) (c.take_lines.ensures.runs named)

pub returns-else-branch-clause-runs : goal.returns-else-branch-clause-runs
returns-else-branch-clause-runs g c = λ named.
    exhausted_at_start c.args.quiet _ _ _ (none_carried (rw c.requires.none at (c.in_ok-run_to_rest.ensures.takes named))) (rw c.if-branch.false at c.in_ok-run_to_rest.ensures.rests)
