use Rattle.network_run.proofs.Running.{takes_on}
use Rattle.network_run.proofs.Ways.{fault_on}
use Rattle.network_run.proofs.input.take_input.Goals as goal

pub returns-in_err-submit-clause-takes : goal.returns-in_err-submit-clause-takes
returns-in_err-submit-clause-takes g c = λ named.
    let s = c.in_err-submit.ensures.takes c.args.quiet _ _ _ in (s.0, s.1, fault_on c.from_residual.result _ _ _ c.from_residual.ensures.1 s.2)

pub returns-clause-takes : goal.returns-clause-takes
returns-clause-takes g c = λ named.
    let s = c.in_ok-submit.ensures.takes c.args.quiet _ _ _ in (s.0, s.1, takes_on c.args.quiet c.run_to_rest.result _ _ _ s.2 (c.run_to_rest.ensures.takes named))
