use Rattle.std.proofs.Common.{refl}
use Rattle.network_setup.proofs.Malformed.{passed_on}
use Rattle.network_setup.proofs.setup.add_listed.Goals as goal

pub returns-in_err-listed-in-Some-clause-malformed : goal.returns-in_err-listed-in-Some-clause-malformed
returns-in_err-listed-in-Some-clause-malformed c =
    passed_on c.from_residual.result _ c.from_residual.ensures.1 (λ none. (c.in-Some.calls.now, rw c.in-Some.is refl, none))
    c.in_err-listed-in-Some.ensures.malformed
