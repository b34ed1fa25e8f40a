-- What the handles stand for, after a change of the positions and of the region's bytes.
use Rattle.mmem_core.proofs.Words.{◌≡◌, ◌≢◌, ℕ, zero, suc, ◌+◌, ◌-◌, ◌≤◌, ◌<◌, ◌⊎◌, List, [], ◌∷◌, length, map, get_or, slice_set, sum_by, Option, Some, None, refl, ap, arith, option_map, length-replicate, sum_by-cons, sum_by-set, up4, zeros, written, length-range, range-written, range-written_apart, Place, ManagedStore, size_of, unused, place_in, at_of, room_of, bytes_at}
use Rattle.std.proofs.Math.ListN.{get_or-map}
use Rattle.mmem_core.proofs.PlaceLemmas as places

-- the block of a name, read from a region
abbrev pub block_in : List ℕ → Option Place → Option (List ℕ)
block_in region = option_map (bytes_at region)

pub unused-added : (store : ManagedStore) (i n : ℕ) → i < length store.blocks → get_or store.blocks i None ≡ None
    → unused (record store { blocks = slice_set store.blocks i (Some (zeros n)) }) ≡ unused store - up4 n
unused-added store i n below none = grind (arith, length-replicate, sum_by-set)

-- the written bytes meet no block but i's, whose position changes
module _ (region : List ℕ) (at : ℕ) (ws : List ℕ) (fits : at + length ws ≤ length region) where
  abbrev Misses : Option Place → Type 0
  Misses p = (at_of p + room_of p ≤ at) ⊎ (at + length ws ≤ at_of p)

  abbrev after : Option Place → Option (List ℕ)
  after = block_in (written region at ws)

  block_apart : (p : Option Place) → Misses p → after p ≡ block_in region p
  block_apart None apart = refl
  block_apart (Some place) apart = grind (arith, range-written_apart)

  blocks-same : (xs : List (Option Place)) → ((j : ℕ) → Misses (place_in xs j)) → map after xs ≡ map (block_in region) xs
  blocks-same [] apart = refl
  blocks-same (x ∷ xs) apart = λ k. block_apart x (apart 0) k ∷ blocks-same xs (λ j. apart (suc j)) k

  pub blocks-set : (xs : List (Option Place)) (i : ℕ) (p : Option Place) → ((j : ℕ) → j ≢ i → Misses (place_in xs j))
      → map after (slice_set xs i p) ≡ slice_set (map (block_in region) xs) i (after p)
  blocks-set [] i p apart = refl
  blocks-set (x ∷ xs) zero p apart = ap (λ l. after p ∷ l) (blocks-same xs (λ j. apart (suc j) (omega arith)))
  blocks-set (x ∷ xs) (suc i) p apart =
      λ k. block_apart x (apart 0 (omega arith)) k ∷ blocks-set xs i p (λ j ne. apart (suc j) (omega arith)) k

  pub block_written : after (places.placed at (length ws)) ≡ Some ws
  block_written = ap Some (range-written region at ws fits)

module _ (region : List ℕ) where
  pub get_or-blocks : (xs : List (Option Place)) (i : ℕ)
      → get_or (map (block_in region) xs) i None ≡ block_in region (place_in xs i)
  get_or-blocks xs i = get_or-map (block_in region) xs i None

  pub no_place : (p : Option Place) → block_in region p ≡ None → p ≡ None
  no_place None e = refl
  no_place (Some place) e = absurd (cc)

  pub size_same : (p : Option Place) → at_of p + room_of p ≤ length region → size_of (block_in region p) ≡ room_of p
  size_same None h = refl
  size_same (Some place) h = ap up4 (length-range region place.at place.len (omega arith))

  -- the blocks' total is that of their positions
  pub sum_same : (xs : List (Option Place)) → ((i : ℕ) → at_of (place_in xs i) + room_of (place_in xs i) ≤ length region)
      → sum_by size_of (map (block_in region) xs) ≡ sum_by room_of xs
  sum_same [] h = refl
  sum_same (x ∷ xs) h =
      omega (
        arith,
        sum_by-cons size_of (block_in region x) (map (block_in region) xs),
        sum_by-cons room_of x xs,
        size_same x (h 0),
        sum_same xs (λ j. h (suc j)),
      )
