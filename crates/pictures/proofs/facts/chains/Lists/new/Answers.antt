use Rattle.std.proofs.Common.{◌≡◌, ◌∙◌, ℕ, List, [], ap, replicate, arith}
use Rattle.pictures.specs.Chains.AreChains.{none}
use Rattle.pictures.proofs.Chained.{have_none}
use Rattle.pictures.proofs.facts.chains.Lists.new.Goals as goal

pub invariant_of-result : goal.invariant_of-result
invariant_of-result c =
    let all : c.loop-list._list ≡ 8 = omega (arith, c.loop-list.auto._list-end, c.loop-list-test.false) in
    rw c.new-2.ensures.items (have_none _ (c.loop-list.invariant ∙ ap (λ count. replicate {A = List ℕ} count []) all), none)
