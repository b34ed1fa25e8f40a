use Rattle.mmem_core.proofs.Lemmas.{seen_apart, ◌+◌, ◌≤◌, sym, ◌∙◌, arith, taken_is, taken_le_quota, share_is_there, unused_is, free_under, free_of_all}
use Rattle.mmem_core.proofs.mmem.Mmem.avail.Goals as goal

pub overflow_sub-result : goal.overflow_sub-result
overflow_sub-result c = grind (arith, taken_le_quota)

pub returns-in-Some-clause-free : goal.returns-in-Some-clause-free
returns-in-Some-clause-free c bytes within =
    let m = c.self.inside in
    grind (
      arith,
      free_under,
      taken_is m.quotas m.places m.taken m.used m.span.len c.self.invariant.3,
      seen_apart c.self.view_is c.self.invariant.1,
    )

pub returns-in-Some-clause-there : goal.returns-in-Some-clause-there
returns-in-Some-clause-there c bytes within owner = let m = c.self.inside in let owner' : c.args.pid.0 ≤ 2 + m.quotas.owners = grind arith
    in
    let there = share_is_there m.quotas m.places m.taken m.used m.span.len c.self.invariant.3 c.in-Some.quota c.args.pid.0 c.in-Some.is
    c.requires.least c.requires.most owner' in
    grind (
      arith,
      unused_is c.args.self.now
          (seen_apart c.self.view_is c.self.invariant.1) bytes within m.used (grind arith),
    )

pub returns-in-None-clause-free : goal.returns-in-None-clause-free
returns-in-None-clause-free c bytes within = sym (free_of_all c.args.self.now
    (seen_apart c.self.view_is c.self.invariant.1) bytes within c.args.pid.0 c.self.inside.used (grind arith) (grind arith)
    ∙ (grind arith))

pub returns-in-None-clause-there : goal.returns-in-None-clause-there
returns-in-None-clause-there c bytes within owner = grind (arith, unused_is)
