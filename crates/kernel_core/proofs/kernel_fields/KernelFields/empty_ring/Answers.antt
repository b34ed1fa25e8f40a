use Rattle.std.proofs.Common.{◌≡◌, None, rules, ◌∙◌, ap}
use Rattle.kernel_core.proofs.Common.{machine_of, with_serial, post_continue, broadcast_line}
use Rattle.kernel_core.proofs.Lines.{one_served, waits_served, none_served}
use Rattle.kernel_core.proofs.kernel_fields.KernelFields.empty_ring.Goals as goal

pub ring-preserved : goal.ring-preserved
ring-preserved c = record {
  served =
      one_served c.ring.self c.post_continue.new.self c.in-Some.line (search rules) (search rules) (search rules)
      (c.post_continue.ensures.machine ∙ ap post_continue c.broadcast_line.ensures.machine
      ∙ ap (λ s. post_continue (broadcast_line c.in-Some.line.items (with_serial s (machine_of c.ring.self)))) c.serve.ensures.rest)
      ∙ c.ring.invariant.served;
  kept = search rules;
}

pub returns-in_default-clause-machine : goal.returns-in_default-clause-machine
returns-in_default-clause-machine c =
    let none : c.serve.result ≡ None = search rules in
    ap (λ s. with_serial s (machine_of c.ring.self)) c.serve.ensures.rest ∙ none_served c.ring.self (search rules)
    (rw none at c.serve.ensures.answer) ∙ c.ring.invariant.served

pub returns-clause-machine : goal.returns-clause-machine
returns-clause-machine c = waits_served c.ring.self (search rules) ∙ c.ring.invariant.served
