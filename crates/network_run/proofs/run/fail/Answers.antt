use Rattle.std.proofs.Common.{refl, sym}
use Rattle.network_run.specs.declared.fault.NetworkRunFault.{NetworkRunFault}
use Rattle.network_run.proofs.Closing.{at_write, emptied, failed, failed_before, failed_now}
use Rattle.network_run.proofs.run.fail.Goals as goal

pub returns-then-is_write-clause-ran : goal.returns-then-is_write-clause-ran
returns-then-is_write-clause-ran g c = λ named quiet script start net voices later given faulted.
    failed_before c.texts_go_on.ensures.promise quiet script start net voices later c.args.fault given _ _ (sym c.if-is_write.ensures) faulted

pub returns-in_err-flush-clause-ran : goal.returns-in_err-flush-clause-ran
returns-in_err-flush-clause-ran g c = λ named quiet script start net voices later given faulted.
    let cut = c.in_err-flush.ensures.writes named in
    at_write quiet script start voices given _ c.from_residual.result NetworkRunFault.Write c.from_residual.ensures.1 refl
    (failed_now c.texts_go_on.ensures.promise quiet script start net voices later c.args.fault given _ _ _ cut.0 (sym c.if-is_write.ensures) faulted cut.1)

pub returns-clause-ran : goal.returns-clause-ran
returns-clause-ran g c = λ named quiet script start net voices later given faulted.
    failed c.texts_go_on.ensures.promise quiet script start net voices later c.args.fault given _ _ _ (sym c.if-is_write.ensures) faulted
    (emptied c.in_ok-flush.ensures.empty (c.in_ok-flush.ensures.writes named))
