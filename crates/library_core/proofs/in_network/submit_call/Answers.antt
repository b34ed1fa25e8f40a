use Rattle.std.proofs.Common.{◌≡◌, true, is_some, refl, arith}
use Rattle.library_core.specs.Calls.{call_said}
use Rattle.library_core.proofs.Submitting.{network_takes_call}
use Rattle.library_core.proofs.in_network.submit_call.Goals as goal

pub returns-in-Ok-true-clause-taken : goal.returns-in-Ok-true-clause-taken
returns-in-Ok-true-clause-taken c = λ done.
    let e = c.in-Ok-true.ensures in
    let some : true ≡ is_some (call_said c.args.plain.now) = grind (arith, e.is_said, c.in-Ok-true.field-0-test) in
    network_takes_call c.args.plain.now c.args.steps.now c.submit_from.new.self _ refl some e.submitted.0 e.submitted.1
