use Rattle.std.proofs.Common.{◌≡◌, ◌≢◌, ◌∙◌, true, is_some, Option, None, arith}
use Rattle.library_core.proofs.in_network.go_next.Goals as goal

there : {A : Type 0} → (found : Option A) → is_some found ≡ true → found ≢ None
there found is none = absurd (cc)

pub returns-in-Err-clause-awaits : goal.returns-in-Err-clause-awaits
returns-in-Err-clause-awaits c = λ waits.
    let both = c.in-Err.ensures.awaits (there _ waits) in
    (c.fault_status.ensures.status ∙ grind (arith, both.0, c.in-Err.is), both.1)
