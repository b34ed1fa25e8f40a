-- What the flags of a pool's blocks say of the pool; f has the bytes of each block.
use Rattle.memb_core.proofs.Words.{◌≡◌, ◌≢◌, ℕ, zero, suc, ◌+◌, ◌≤◌, ◌<◌, Bool, true, false, not, List, [], ◌∷◌, length, get_or, set, refl, ap, arith, Some, None, is_none, filter, if◌then◌else◌, position, position_or_len, get_or-set_same, get_or-set_other, get_or_past, false≢true, BlockPool, PoolTable, is_live, first_unused, unused_count, with_block, blocks_from, usable_bytes, region_of, pool_of, is_used, replicate}

abbrev pub told : ℕ → (ℕ → List ℕ) → List Bool → BlockPool
told usable f us = record { usable = usable; blocks = blocks_from f 0 us }

module _ (f : ℕ → List ℕ) where
  get_or-from : (n : ℕ) (us : List Bool) (b : ℕ)
      → get_or (blocks_from f n us) b None ≡ (if get_or us b false then Some (f (n + b)) else None)
  get_or-from n [] b = refl
  get_or-from n (u ∷ us) zero = grind arith
  get_or-from n (u ∷ us) (suc b) = grind (arith, get_or-from (n + 1) us b)

  pub get_or-blocks : (us : List Bool) (b : ℕ) → get_or (blocks_from f 0 us) b None ≡ (if get_or us b false then Some (f b) else None)
  get_or-blocks us b = grind (arith, get_or-from)

  unused_from : (n : ℕ) (us : List Bool) → (length (blocks_from f n us) ≡ length us)
      × (position_or_len is_none (blocks_from f n us) ≡ position_or_len not us)
      × (length (filter is_none (blocks_from f n us)) ≡ length (filter not us))
  unused_from n [] = (refl, refl, refl)
  unused_from n (u ∷ us) = grind (arith, unused_from (n + 1) us)

  pub all_unused : (n count : ℕ) → blocks_from f n (replicate count false) ≡ replicate count None
  all_unused n zero = refl
  all_unused n (suc count) = ap (λ l. None ∷ l) (all_unused (n + 1) count)

  module _ (g : ℕ → List ℕ) where
    blocks-same : (n : ℕ) (us : List Bool) → ((b : ℕ) → n ≤ b → g b ≡ f b) → blocks_from g n us ≡ blocks_from f n us
    blocks-same n [] same = refl
    blocks-same n (u ∷ us) same = grind (arith, blocks-same (n + 1) us (λ b le. same b (omega arith)))

    blocks-set : (n : ℕ) (us : List Bool) (c b : ℕ) (u : Bool) → b ≡ n + c → c < length us → ((k : ℕ) → k ≢ b → g k ≡ f k)
        → blocks_from g n (set us c u) ≡ set (blocks_from f n us) c (if u then Some (g b) else None)
    blocks-set n [] c b u is below same = absurd (omega arith)
    blocks-set n (x ∷ us) zero b u is below same =
        grind (arith, blocks-same (n + 1) us (λ k le. same k (omega arith)))
    blocks-set n (x ∷ us) (suc c) b u is below same =
        grind (arith, blocks-set (n + 1) us c b u (omega arith) (omega arith) same)

module _ (usable : ℕ) (f : ℕ → List ℕ) (us : List Bool) where
  module _ (b : ℕ) where
    pub live_told : is_live b (told usable f us) ≡ get_or us b false
    live_told = grind (arith, get_or-blocks)

    -- block b is used or not from now on, and the others keep their bytes
    pub told_set : (g : ℕ → List ℕ) (u : Bool) → b < length us → ((c : ℕ) → c ≢ b → g c ≡ f c)
        → told usable g (set us b u) ≡ with_block b (if u then Some (g b) else None) (told usable f us)
    told_set g u below same = let blocks = blocks-set f g 0 us b b u (omega arith) below same in cc

  pub first_unused_told : first_unused (told usable f us) ≡ position not us
  first_unused_told = grind (arith, unused_from f 0 us)

  pub unused_count_told : unused_count (told usable f us) ≡ length (filter not us)
  unused_count_told = (unused_from f 0 us).2

module _ (us : List Bool) (b : ℕ) where
  pub used_below : get_or us b false ≡ true → b < length us
  used_below used = grind (arith, false≢true, get_or_past)

  pub still_used : (c : ℕ) → get_or us c false ≡ true → get_or (set us b true) c false ≡ true
  still_used c used = grind (arith, get_or-set_same, used_below, get_or-set_other)

module _ (pool : PoolTable) (bytes : List ℕ) where
  abbrev f : ℕ → List ℕ
  f = usable_bytes pool (region_of pool bytes)

  pub first_unused_is : first_unused (pool_of pool bytes) ≡ position not pool.used
  unfolding pool_of
  first_unused_is = first_unused_told pool.usable f pool.used

  pub unused_count_is : unused_count (pool_of pool bytes) ≡ length (filter not pool.used)
  unfolding pool_of
  unused_count_is = unused_count_told pool.usable f pool.used

  pub live_is : (b : ℕ) → is_live b (pool_of pool bytes) ≡ is_used b pool
  unfolding pool_of
  live_is = live_told pool.usable f pool.used
