-- The bytes of a pool's span after a write to a block, or to a link.
use Rattle.memb_core.proofs.Words.{◌≡◌, ◌≢◌, ℕ, ◌+◌, ◌^◌, ◌≤◌, ◌<◌, ◌⊎◌, inl, inr, true, false, List, length, slice_range, refl, sym, ap, ◌∙◌, arith, Option, Some, is_some, IsSomeAnd, from_le_bytes, to_le_bytes, cases_eq, cases_order, append_assoc, length-replicate, set-get_or, drop_all, append-nil, w32, zeros, overwritten, contents, written, length-range, length-written, range-written, range-written_apart, written-range, range-range, changes_only, PoolTable, FillsSpan, with_used, with_block, with_bytes, allocated, freed, block_of, is_live, place_of, region_of, usable_bytes, pool_of, IsWithin, KeepsToSpan, named_by, link_of, is_used}
use Rattle.std.proofs.lemmas.Nat.{mul-le, from_le_bytes-to_le_bytes_4}
use Rattle.arena_core.proofs.Rows.{written_is}
use Rattle.memb_core.proofs.Blocks.{told, told_set, get_or-blocks, used_below, live_is}

module _ (pool : PoolTable) where
  pub block_inside : FillsSpan pool → (b : ℕ) → b < length pool.used → place_of pool b + 4 + pool.usable ≤ pool.span.len
  block_inside fills b below = grind arith

  pub blocks_apart : (b c : ℕ) → b ≢ c → (place_of pool b + 4 + pool.usable ≤ place_of pool c)
      ⊎ (place_of pool c + 4 + pool.usable ≤ place_of pool b)
  blocks_apart b c ne =
      let size = pool.usable + 4 in
      elim (cases_order b c) [
        | inl e ↦ absurd (ne e)
        | inr order ↦ elim order [
          | inl before ↦ inl (omega (arith, mul-le (b + 1) size c size (omega arith) (omega arith)))
          | inr behind ↦ inr (omega (arith, mul-le (c + 1) size b size (omega arith) (omega arith)))
        ]
      ]

  module _ (B : List ℕ) (b : ℕ) where
    pub pool_freed : b < length pool.used → pool_of (with_used b false pool) B ≡ freed b (pool_of pool B)
    unfolding pool_of
    pool_freed below = let f = usable_bytes pool (region_of pool B) in told_set pool.usable f pool.used b f false below (λ c ne. refl)

    pub block_is : is_used b pool ≡ true → block_of b (pool_of pool B) ≡ Some (usable_bytes pool (region_of pool B) b)
    unfolding pool_of
    block_is used = grind (arith, get_or-blocks)

    pub live_below : is_live b (pool_of pool B) ≡ true → b < length pool.used
    live_below live = grind (arith, used_below, live_is)

    pub used_if_room : (n : ℕ) → IsSomeAnd (block_of b (pool_of pool B)) (λ block. n ≤ length block) → is_used b pool ≡ true
    used_if_room n h = sym (live_is pool B b) ∙ used_if_some (block_of b (pool_of pool B)) h
      where
        used_if_some : (o : Option (List ℕ)) → IsSomeAnd o (λ block. n ≤ length block) → is_some o ≡ true
        used_if_some o h = grind arith

module _ (pool : PoolTable) (fills : FillsSpan pool) (B : List ℕ) (within : IsWithin pool B) where
  abbrev R : List ℕ
  R = region_of pool B

  abbrev count : ℕ
  count = length pool.used

  length-region : length R ≡ pool.span.len
  length-region = length-range B pool.span.at pool.span.len within

  module _ (b : ℕ) where
    pub bytes_read : b < count
        → usable_bytes pool R b ≡ slice_range B (pool.span.at + (place_of pool b + 4)) (pool.span.at + (place_of pool b + 4) + pool.usable)
    bytes_read below = grind (arith, block_inside, range-range)

    pub link_read : b < count
        → link_of pool B b ≡ named_by
        (from_le_bytes w32 (slice_range B (pool.span.at + place_of pool b) (pool.span.at + place_of pool b + 4)))
    unfolding link_of
    link_read below = grind (arith, range-range)

    length-usable : b < count → length (usable_bytes pool R b) ≡ pool.usable
    length-usable below = grind (arith, block_inside, length-region, length-range)

    pub room_of : (n : ℕ) → IsSomeAnd (block_of b (pool_of pool B)) (λ block. n ≤ length block) → (is_used b pool ≡ true)
        × (n ≤ pool.usable)
    room_of n h = grind (arith, used_if_room, block_is, length-usable, used_below)

  module _ (x : ℕ) (ws : List ℕ) (inside : x + length ws ≤ pool.span.len) where
    abbrev B' : List ℕ
    B' = written B (pool.span.at + x) ws

    pub still_within : IsWithin pool B'
    still_within = grind (arith, length-written)

    pub kept : (new : PoolTable) (carved : ℕ) → new.span ≡ pool.span → KeepsToSpan pool new (contents B carved) (contents B' carved)
    kept new carved same = record {
      span = same;
      carved = refl;
      bytes = changes_only B (pool.span.at + x) ws (omega arith) pool.span.at pool.span.len (omega arith) (omega arith);
    }

    moved : region_of pool B' ≡ written R x ws
    moved = grind (arith, written-range)

    range_kept : (from n : ℕ) → (from + n ≤ x) ⊎ (x + length ws ≤ from)
        → slice_range (region_of pool B') from (from + n) ≡ slice_range R from (from + n)
    range_kept from n side = grind (arith, length-region, moved, range-written_apart)

  -- a write to the usable bytes of block c
  module _ (c at : ℕ) (ws : List ℕ) (below : c < count) (room : at + length ws ≤ pool.usable) where
    pub write_inside : place_of pool c + 4 + at + length ws ≤ pool.span.len
    write_inside = grind arith

    abbrev C : List ℕ
    C = written B (pool.span.at + (place_of pool c + 4 + at)) ws

    usable_written : usable_bytes pool (region_of pool C) c ≡ overwritten at ws (usable_bytes pool R c)
    usable_written = grind (arith, length-region, block_inside, moved, write_inside, written-range, written_is, length-usable, append_assoc)

    usable_others : (b : ℕ) → b ≢ c → usable_bytes pool (region_of pool C) b ≡ usable_bytes pool R b
    usable_others b ne = grind (arith, range_kept, write_inside, blocks_apart)

    pub links_kept : (b : ℕ) → link_of pool C b ≡ link_of pool B b
    unfolding link_of
    links_kept b = grind (arith, range_kept, write_inside, cases_eq, blocks_apart)

    told_written : pool_of (with_used c true pool) C ≡ with_block c (Some (overwritten at ws (usable_bytes pool R c))) (pool_of pool B)
    unfolding pool_of
    told_written = let new = usable_written in
        let is = told_set pool.usable (usable_bytes pool R) pool.used c (usable_bytes pool (region_of pool C)) true below
        usable_others in cc

    pub pool_written : is_used c pool ≡ true → pool_of pool C ≡ with_bytes c at ws (pool_of pool B)
    pool_written used = grind (arith, block_is, set-get_or pool.used c false, told_written)

  -- block c is allocated, with bytes 0
  pub pool_allocated : (c : ℕ) → c < count
      → pool_of (with_used c true pool) (written B (pool.span.at + (place_of pool c + 4 + 0)) (zeros pool.usable))
      ≡ allocated c (pool_of pool B)
  unfolding pool_of
  pool_allocated c below =
      let long : length (zeros pool.usable) ≡ pool.usable = length-replicate pool.usable 0 in
      let all : overwritten 0 (zeros pool.usable) (usable_bytes pool R c) ≡ zeros pool.usable =
      grind (arith, length-usable, drop_all, append-nil) in
      told_written c 0 (zeros pool.usable) below (omega arith) ∙ ap (λ bytes. with_block c (Some bytes) (pool_of pool B)) all

  -- a write to the link of block c
  module _ (c word : ℕ) (below : c < count) (small : word < 2 ^ 32) where
    abbrev W : List ℕ
    W = to_le_bytes w32 word

    abbrev L : List ℕ
    L = written B (pool.span.at + place_of pool c) W

    pub link_inside : place_of pool c + length W ≤ pool.span.len
    link_inside = grind arith

    pub link_written : link_of pool L c ≡ named_by word
    unfolding link_of
    link_written =
        let long = length-region in let inside = link_inside in
        ap (λ r. named_by (from_le_bytes w32 (slice_range r (place_of pool c) (place_of pool c + 4)))) (moved (place_of pool c) W inside)
        ∙ ap (λ bytes. named_by (from_le_bytes w32 bytes)) (range-written R (place_of pool c) W (omega arith))
        ∙ ap named_by (from_le_bytes-to_le_bytes_4 word small)

    module _ (b : ℕ) where
      pub link_others : b ≢ c → link_of pool L b ≡ link_of pool B b
      unfolding link_of
      link_others ne = ap (λ bytes. named_by (from_le_bytes w32 bytes)) (range_kept (place_of pool c) W link_inside (place_of pool b) 4
          (elim (blocks_apart pool b c ne) [ inl before ↦ inl (omega arith) | inr behind ↦ inr (omega arith) ]))

      link_usable : usable_bytes pool (region_of pool L) b ≡ usable_bytes pool R b
      link_usable = range_kept (place_of pool c) W link_inside (place_of pool b + 4) pool.usable (elim (cases_eq b c) [
        | inl e ↦ let same = ap (place_of pool) e in inr (omega arith)
        | inr ne ↦ elim (blocks_apart pool b c ne) [ inl before ↦ inl (omega arith) | inr behind ↦ inr (omega arith) ]
      ])

    pub link_blocks : pool_of pool L ≡ pool_of pool B
    unfolding pool_of
    link_blocks = ap (λ f. told pool.usable f pool.used) (λ i b. link_usable b i)
