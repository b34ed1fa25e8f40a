use Rattle.std.proofs.Common.{◌≡◌, ℕ, zero, suc, ◌+◌, List, [], ◌∷◌, ◌++◌, refl, ap, sym, ◌∙◌, arith}
use Rattle.std.specs.Global.{Vec}
use Rattle.medium_core.specs.Code.Airs.{link_lists}
use Rattle.medium_core.specs.declared.link.Link.{Link}
use Rattle.network_steps.specs.StepsView.{unlinked}
use Rattle.network_steps.proofs.steps.no_links.Goals as goal

lists_on : (lists : List (Vec Link)) (v : Vec Link) → v.items ≡ [] → link_lists (lists ++ v ∷ []) ≡ link_lists lists ++ [] ∷ []
lists_on [] v e = ap (λ (items : List Link). items ∷ []) e
lists_on (x ∷ lists) v e = ap (λ (l : List (List Link)). x.items ∷ l) (lists_on lists v e)

one_more : (n : ℕ) → unlinked n ++ [] ∷ [] ≡ unlinked (suc n)
one_more zero = refl
one_more (suc n) = ap (λ (l : List (List Link)). [] ∷ l) (one_more n)

plus : (n : ℕ) → unlinked (n + 1) ≡ unlinked (suc n)
plus n = let e : n + 1 ≡ suc n = omega arith in ap unlinked e

pub loop-made-preserved : goal.loop-made-preserved
loop-made-preserved c = (
  ap link_lists c.in-Ok.ensures.items
      ∙ (lists_on c.loop-made.lists.items c.new.result c.new.ensures.items
      ∙ (ap (λ (l : List (List Link)). l ++ [] ∷ []) c.loop-made.invariant.0 ∙ (one_more c.loop-made.made ∙ sym (plus c.loop-made.made)))),
  omega arith,
)
