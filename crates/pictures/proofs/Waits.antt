-- Events that no longer wait, one after the other.
use Rattle.std.proofs.Common.{◌≡◌, ◌∙◌, ◌<◌, ℕ, List, [], ◌∷◌, ◌++◌, length, map, slice_index_or, append_assoc, ap, ap₂, arith}
use Rattle.std.specs.List.{remove}
use Rattle.std.proofs.lemmas.List.{map-append}

module _ {W P : Type 0} (line : W → ℕ) (posted_in : P → ℕ) where
  -- the first waiting event no longer waits
  pub one_moved : (waits new : List W) (wait : W) (posted left : List P) (event : P) → 0 < length posted → new ≡ waits ++ wait ∷ []
      → left ≡ remove posted 0 → event ≡ slice_index_or posted 0 event → line wait ≡ posted_in event
      → map line new ++ map posted_in left ≡ map line waits ++ map posted_in posted
  one_moved waits new wait [] left event some pushed rest is same = absurd (omega (arith, some))
  one_moved waits new wait (first ∷ posted) left event some pushed rest is same =
      ap₂ (λ one other. map line one ++ map posted_in other) pushed rest
      ∙ ap (λ lines. lines ++ map posted_in posted) (map-append line waits (wait ∷ []))
      ∙ append_assoc (map line waits) (line wait ∷ []) (map posted_in posted)
      ∙ ap (λ number. map line waits ++ number ∷ map posted_in posted) (same ∙ ap posted_in is)
