use Rattle.mmem_core.proofs.Lemmas.{ends, arith, inl, refl, last_below, last_is, shown}
use Rattle.mmem_core.proofs.mmem.Mmem.end.Goals as goal

pub last-requires : goal.last-requires
last-requires c = last_below (shown c.self.invariant.0)

pub block-place-requires-clause-live : goal.block-place-requires-clause-live
block-place-requires-clause-live c = grind (arith, (shown c.self.invariant.0).last 272 (inl refl))

pub overflow_add-result : goal.overflow_add-result
overflow_add-result c = grind arith

pub returns-in-Some : goal.returns-in-Some
returns-in-Some c = let lie = c.self.invariant.1 in
    grind (arith, lie.inside, last_is (shown c.self.invariant.0) c.self.inside.span.len lie)

pub returns-in-None-clause-end : goal.returns-in-None-clause-end
returns-in-None-clause-end c = let lie = c.self.invariant.1 in
    grind (
      arith,
      ends (shown c.self.invariant.0),
      c.in-None.ensures.number,
      (shown c.self.invariant.0).names,
      last_is (shown c.self.invariant.0) c.self.inside.span.len lie,
    )
