use Rattle.std.proofs.Common.{◌≡◌, ℕ, List, [], map, replicate}
use Rattle.pictures.proofs.facts.chains.Lists.new.Given as goal

abbrev pub invariant-loop-list : goal.invariant-loop-list
invariant-loop-list l = map {B = List ℕ} (λ blocks. blocks.items) l.lists.items ≡ replicate l._list []
