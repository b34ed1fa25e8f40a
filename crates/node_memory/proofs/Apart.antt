-- The live blocks of all kinds are apart, and each is read from its own part of the arena.
use Rattle.arena_core.specs.Code.Extents.{Extent, LiesIn, AreApart}
use Rattle.heap_core.proofs.Callers.{IsLaidOut-apart}
use Rattle.memb_core.specs.Code.PoolBytes.{pool_of, IsWithin}
use Rattle.memb_core.specs.Code.PoolTable.{PoolTable}
use Rattle.mote_types.specs.Bytes.{range_of}
use Rattle.node_memory.specs.Code.Layout.{IsLaidOut, LieBehind, end_of}
use Rattle.node_memory.specs.ListedPools.{unused_pool_of}
use Rattle.node_memory.specs.Code.Placed.{Layout, contents_of, seen, placed}
use Rattle.node_memory.specs.Code.Separation.{BlockName, IsBlockName, block_named, extent_in_pool, extent_named, header_of, IsReadFrom, BlocksLieApart}
use Rattle.std.proofs.Common.{◌≡◌, ◌≢◌, ℕ, zero, suc, ◌+◌, ◌≤◌, ◌⊎◌, inl, inr, List, [], ◌∷◌, length, map, refl, sym, ap, ◌∙◌, arith, subst, Option, Some, None, slice_get, is_some, unwrap_or, get_or, ◌<◌}
use Rattle.std.specs.Option.{option_map}
use Rattle.heap_core.specs.Code.HeapBytes.{heap_of}
use Rattle.memb_core.specs.BlockPool.{block_of}
use Rattle.node_memory.specs.declared.listed_pool.ListedPool.{ListedPool}
use Rattle.std.proofs.lemmas.Bool.{cases_eq}
use Rattle.std.proofs.lemmas.Option.{slice_get-get_or, slice_get-map, slice_get_within, unwrap_or-slice_get}
use Rattle.arena_core.proofs.Ranges.{length-range}
use Rattle.memb_core.proofs.Blocks.{live_is, used_below}
use Rattle.node_memory.proofs.LaidOut.{pool-at}
use Rattle.mmem_core.specs.Code.Separation as managed
use Rattle.heap_core.specs.Code.Separation as heap
use Rattle.memb_core.specs.Code.Separation as pools

-- two pools
two-pools : (j k from : ℕ) (listed : List ListedPool) (l m : ListedPool) (bytes : List ℕ) → j ≢ k → LieBehind from listed bytes
    → slice_get listed j ≡ Some l → slice_get listed k ≡ Some m
    → (end_of l.pool.span ≤ m.pool.span.at) ⊎ (end_of m.pool.span ≤ l.pool.span.at)
two-pools j k from [] l m bytes ne lie there there' = absurd (cc)
two-pools zero zero from (first ∷ later) l m bytes ne lie there there' = absurd (ne refl)
two-pools zero (suc k) from (first ∷ later) l m bytes ne lie there there' =
    let rest = pool-at k (end_of first.pool.span) later m bytes lie.2 there' in grind arith
two-pools (suc j) zero from (first ∷ later) l m bytes ne lie there there' =
    let rest = pool-at j (end_of first.pool.span) later l bytes lie.2 there in grind arith
two-pools (suc j) (suc k) from (first ∷ later) l m bytes ne lie there there' =
    two-pools j k (end_of first.pool.span) later l m bytes (λ e. ne (ap suc e)) lie.2 there there'

mapped : {X Y : Type 0} (f : X → Y) (found : Option X) (y : Y) → option_map f found ≡ Some y → (x : X) × (found ≡ Some x) × (f x ≡ y)
mapped f found y is = grind arith

-- what holds of each of four pools
pub of-four : (F : ListedPool → Type 0) (listed : List ListedPool) (a b c d : ListedPool) → length listed ≡ 4
    → F (get_or listed 0 a) → F (get_or listed 1 b) → F (get_or listed 2 c) → F (get_or listed 3 d) → (k : ℕ) (l : ListedPool)
    → slice_get listed k ≡ Some l → F l
of-four F listed a b c d count first second third fourth h11 l there =
    grind (arith, slice_get-get_or, slice_get_within)

abbrev pub PoolApart : ListedPool → Type 0
PoolApart l = (bytes : List ℕ) → IsWithin l.pool bytes → pools.BlocksLieApart l.pool bytes

module _ (l : Layout) (laid_out : IsLaidOut l) (managed_apart : managed.BlocksLieApart l.managed l.bytes)
    (pools_apart : (k : ℕ) (listed : ListedPool) → slice_get l.pools k ≡ Some listed → PoolApart listed) where
  heap_apart : heap.BlocksLieApart l.heap l.bytes
  heap_apart = IsLaidOut-apart l.heap l.bytes laid_out.heap

  live-within : (pool : PoolTable) (b : ℕ) (block : List ℕ) → block_of b (pool_of pool l.bytes) ≡ Some block → b < length pool.used
  live-within pool b block is = used_below pool.used b (sym (live_is pool l.bytes b) ∙ ap is_some is)

  -- where each kind of block is
  managed_in : (p h : ℕ) (e : Extent) → extent_named (BlockName.Managed p h) l ≡ Some e → LiesIn l.managed.span e
  managed_in p h e is = grind arith

  heap_in : (p b : ℕ) (e : Extent) → extent_named (BlockName.Heap p b) l ≡ Some e → LiesIn l.heap.span e
  heap_in p b e is = grind (arith, heap_apart)

  module _ (k : ℕ) where
    pool_apart : (listed : ListedPool) → slice_get l.pools k ≡ Some listed
        → (end_of l.heap.span ≤ listed.pool.span.at) × IsWithin listed.pool l.bytes × pools.BlocksLieApart listed.pool l.bytes
    pool_apart listed there =
        let lie = pool-at k (end_of l.heap.span) l.pools listed l.bytes laid_out.pools there in
        (lie.0, lie.1.within, pools_apart k listed there l.bytes lie.1.within)

    module _ (b : ℕ) (e : Extent) where
      pool_in : (found : Option ListedPool) → slice_get l.pools k ≡ found → extent_in_pool b l.bytes found ≡ Some e
          → (listed : ListedPool) × (slice_get l.pools k ≡ Some listed) × (pools.extent_of listed.pool b ≡ e) × LiesIn listed.pool.span e
      pool_in None there is = absurd (cc)
      pool_in (Some listed) there is =
          let block = mapped (λ _. pools.extent_of listed.pool b) (block_of b (pool_of listed.pool l.bytes)) e is in
          let inside = (pool_apart listed there).2.inside b (live-within listed.pool b block.0 block.1) in
          (listed, there, block.2, subst (LiesIn listed.pool.span) block.2 inside)

      pooled_at : extent_named (BlockName.Pooled k b) l ≡ Some e
          → (end_of l.heap.span ≤ e.at) × (e.at + e.len ≤ length l.bytes)
      pooled_at is =
          let there = pool_in (slice_get l.pools k) refl is in let lie = pool_apart there.0 there.1 in
          (omega arith, omega arith)

  inside : (name : BlockName) (e : Extent) → extent_named name l ≡ Some e → e.at + e.len ≤ length l.bytes
  inside (BlockName.Managed p h) e is = omega (arith, managed_in p h e is)
  inside (BlockName.Heap p b) e is = omega (arith, heap_in p b e is)
  inside (BlockName.Pooled k b) e is = (pooled_at k b e is).1

  apart : (one other : BlockName) (e f : Extent) → IsBlockName one → IsBlockName other → one ≢ other → extent_named one l ≡ Some e
      → extent_named other l ≡ Some f → AreApart e f
  apart (BlockName.Managed p h) (BlockName.Managed q g) e f named named' ne is is' = grind arith
  apart (BlockName.Heap p h) (BlockName.Heap q g) e f named named' ne is is' = grind (arith, heap_apart)
  apart (BlockName.Pooled k b) (BlockName.Pooled j c) e f named named' ne is is' =
      let one = pool_in k b e (slice_get l.pools k) refl is in let other = pool_in j c f (slice_get l.pools j) refl is' in
      elim (cases_eq k j) [
        | inl same ↦ let apart = (pool_apart k one.0 one.1).2.apart b c in grind arith
        | inr differ ↦ grind (arith, two-pools)
      ]
  apart one other e f named named' ne is is' = grind (arith, heap_in, pooled_at)

  -- a block that is read from its part, after its header
  read-from : (name : BlockName) (bytes : List ℕ) (e : Extent) (len : ℕ) → extent_named name l ≡ Some e
      → range_of (e.at + header_of name l) len l.bytes ≡ bytes → header_of name l + len ≤ e.len → IsReadFrom name bytes l
  read-from name bytes e len takes is fits = let within = inside name e takes in grind (arith, length-range)

  read-pool : (k b : ℕ) (bytes : List ℕ) (found : Option ListedPool) → slice_get l.pools k ≡ found
      → block_of b (unwrap_or (option_map (λ m. seen m l.bytes) found) (unused_pool_of 0)).pool ≡ Some bytes
      → IsReadFrom (BlockName.Pooled k b) bytes l
  read-pool k b bytes None there is = grind arith
  read-pool k b bytes (Some listed) there is =
      let pool = listed.pool in read-from (BlockName.Pooled k b) bytes (pools.extent_of pool b) pool.usable (grind arith)
      (sym (grind (arith, ((pool_apart k listed there).2).read b))) (omega arith)

  read : (name : BlockName) (bytes : List ℕ) → block_named name (contents_of l) ≡ Some bytes → IsReadFrom name bytes l
  read (BlockName.Managed p h) bytes is =
      let there = mapped (managed.bytes_at_place l.managed l.bytes) (managed.place_of p h l.managed) bytes
      (sym (managed_apart.read p h) ∙ is) in
      let place = there.0 in let at = l.managed.span.at + place.at in
      let at_is : at + 0 ≡ at = omega arith in
      read-from (BlockName.Managed p h) bytes (managed.extent_of l.managed place) place.len
      (ap (option_map (managed.extent_of l.managed)) there.1) (rw at_is there.2) (omega arith)
  read (BlockName.Heap p b) bytes is =
      let there = mapped (heap.bytes_behind_header l.heap l.bytes) (heap.live_block p b (heap_of l.heap l.bytes)) bytes
      (sym (heap_apart.read p b) ∙ is) in
      let block = there.0 in let room = heap_apart.room p b block there.1 in
      read-from (BlockName.Heap p b) bytes (heap.extent_of l.heap block) (length block.bytes)
      (ap (option_map (heap.extent_of l.heap)) there.1) there.2 (omega arith)
  read (BlockName.Pooled k b) bytes is =
      read-pool k b bytes (slice_get l.pools k) refl
      (ap (λ found. block_of b (unwrap_or found (unused_pool_of 0)).pool) (sym (slice_get-map (λ m. seen m l.bytes) l.pools k))
      ∙ ap (λ s. block_of b s.pool) (unwrap_or-slice_get (map (λ m. seen m l.bytes) l.pools) k (unused_pool_of 0)) ∙ is)

  pub all-apart : BlocksLieApart (placed l)
  all-apart = grind (arith, read, inside, apart)
