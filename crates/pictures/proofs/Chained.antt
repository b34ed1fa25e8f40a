-- One more chain.
use Rattle.std.proofs.Common.{◌≡◌, ◌∙◌, ◌<◌, ◌==◌, ℕ, List, [], ◌∷◌, ◌++◌, zero, suc, map, replicate, slice_index_or, set, if◌then◌else◌, refl, sym, subst, arith}
use Rattle.std.proofs.lemmas.Bool.{cases_eq}
use Rattle.std.proofs.lemmas.Bool.Decides.{nat_tests}
use Rattle.std.proofs.lemmas.List.{length-set, map-set, get_or-set_same, get_or-set_other}
use Rattle.std.specs.Global.{Vec}
use Rattle.pictures.specs.declared.facts.chains.Chain.{Chain}
use Rattle.pictures.specs.Chains.{blocks_after}
use Rattle.pictures.specs.Code.Blocks.{HaveBlocks}

-- its list has its blocks
blocks_more : (list : ℕ) (before : List ℕ) (chains : List Chain) (chain : Chain)
    → blocks_after list before (chains ++ chain ∷ [])
    ≡ (if chain.list == list then chain.blocks.items else blocks_after list before chains)
blocks_more list before [] chain = refl
blocks_more list before (other ∷ chains) chain =
    blocks_more list (if other.list == list then other.blocks.items else before) chains chain

-- and the others have theirs
blocks_at : (lists : List (List ℕ)) (chains : List Chain) (chain : Chain) → HaveBlocks lists chains → chain.list < 8 → (list : ℕ) → list < 8
    → slice_index_or (set lists chain.list chain.blocks.items) list [] ≡ blocks_after list [] (chains ++ chain ∷ [])
blocks_at lists chains chain has inside list is =
    grind (arith, cases_eq, nat_tests, get_or-set_same, get_or-set_other, blocks_more list [] chains chain, has.size, has.blocks list is)

pub have_blocks : (lists : List (List ℕ)) (chains : List Chain) (chain : Chain) → HaveBlocks lists chains → chain.list < 8
    → HaveBlocks (set lists chain.list chain.blocks.items) (chains ++ chain ∷ [])
have_blocks lists chains chain has inside = record {
  size = length-set lists chain.list chain.blocks.items ∙ has.size;
  blocks = blocks_at lists chains chain has inside;
}

none_at : (count list : ℕ) → slice_index_or (replicate {A = List ℕ} count []) list [] ≡ []
none_at zero list = refl
none_at (suc count) zero = refl
none_at (suc count) (suc list) = none_at count list

-- at first no list has a block
pub have_none : (lists : List (List ℕ)) → lists ≡ replicate 8 [] → HaveBlocks lists []
have_none lists empty = subst (λ lists. HaveBlocks lists []) (sym empty) (record { size = refl; blocks = λ list is. none_at 8 list })

pub set_blocks : (lists : List (Vec ℕ)) (new : List Chain) (kept : Vec ℕ) (chains : List Chain) (chain : Chain)
    → kept.items ≡ chain.blocks.items → new ≡ chains ++ chain ∷ [] → HaveBlocks (map (λ blocks. blocks.items) lists) chains → chain.list < 8
    → HaveBlocks (map (λ blocks. blocks.items) (set lists chain.list kept)) new
set_blocks lists new kept chains chain same pushed has inside =
    rw (pushed, map-set (λ blocks. blocks.items) lists chain.list kept, same)
    (have_blocks (map (λ blocks. blocks.items) lists) chains chain has inside)
