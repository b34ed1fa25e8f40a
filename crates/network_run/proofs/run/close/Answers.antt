use Rattle.std.proofs.Common.{append-nil, refl}
use Rattle.network_run.specs.declared.fault.NetworkRunFault.{NetworkRunFault}
use Rattle.network_steps.specs.NetworkText.{last_line}
use Rattle.network_run.proofs.Closing.{at_write, closed, cut_off, emptied}
use Rattle.mote_text.proofs.Writing.{then_written, written_as}
use Rattle.network_run.proofs.run.close.Goals as goal

pub returns-in_err-put_end-clause-ran : goal.returns-in_err-put_end-clause-ran
returns-in_err-put_end-clause-ran g c = λ named quiet script start net voices later given ends.
    let cut = c.in_err-put_end.ensures.puts named in
    at_write quiet script start voices given _ c.from_residual.result _ c.from_residual.ensures.1 c.in_err-put_end.ensures.fault
    (cut_off c.texts_go_on.ensures.promise quiet script start net voices later c.args.end given _ _ _ cut.0 ends cut.1)

pub returns-in_err-flush-clause-ran : goal.returns-in_err-flush-clause-ran
returns-in_err-flush-clause-ran g c = λ named quiet script start net voices later given ends.
    let cut = c.in_err-flush.ensures.writes named in
    at_write quiet script start voices given _ c.from_residual-in_err-flush.result NetworkRunFault.Write c.from_residual-in_err-flush.ensures.1 refl
    (cut_off c.texts_go_on.ensures.promise quiet script start net voices later c.args.end given _ _ _ cut.0 ends
    (written_as (append-nil (last_line c.args.end)) (then_written (c.in_ok-put_end.ensures.puts named) cut.1)))

pub returns-clause-ran : goal.returns-clause-ran
returns-clause-ran g c = λ named quiet script start net voices later given ends.
    closed c.texts_go_on.ensures.promise quiet script start net voices later c.args.end given _ _ _ ends
    (emptied c.in_ok-flush.ensures.empty
    (written_as (append-nil (last_line c.args.end)) (then_written (c.in_ok-put_end.ensures.puts named) (c.in_ok-flush.ensures.writes named))))
