-- A pool and its lists after a call on one of them.
use Rattle.arena_core.specs.Code.Contents.{Contents}
use Rattle.heap_core.proofs.Callers.{heap_of-elsewhere, IsLaidOut-elsewhere}
use Rattle.heap_core.specs.HeapStore.{HeapStore}
use Rattle.heap_core.specs.declared.region.Region.{Region}
use Rattle.memb_core.specs.Code.Holders.{holder_of}
use Rattle.memb_core.specs.Code.PoolBytes.{pool_of}
use Rattle.memb_core.specs.Code.PoolTable.{PoolTable, ListHeads}
use Rattle.memb_core.specs.declared.list_name.ListName.{ListName}
use Rattle.mmem_core.proofs.StoreLemmas.{block_in}
use Rattle.mmem_core.specs.Code.HandleTable.{HandleTable, store_of}
use Rattle.mote_types.specs.Bytes.{zeros}
use Rattle.node_memory.specs.Code.Layout.{LieBehind, IsLaidOut, end_of}
use Rattle.node_memory.specs.Code.Conditions.{frame_in}
use Rattle.node_memory.specs.Frames.{frame_taken}
use Rattle.node_memory.specs.ListedPools.{PoolWithLists, list_in, with_list, with_blocks, unused_pool_of}
use Rattle.node_memory.specs.Memory.{Memory, with_pool, with_managed, with_heap}
use Rattle.node_memory.specs.Code.Placed.{PlacedMemory, seen, Layout, contents_of, placed}
use Rattle.std.proofs.Common.{◌≡◌, ℕ, arith, false, List, [], ◌∷◌, length, refl, sym, ap, ap₂, ◌∙◌, slice_get, Some, None, zero, suc, ◌+◌, ◌≤◌, ◌<◌, ◌⊎◌, inl, inr, map, set, get_or, Option, nat_lt}
use Rattle.heap_core.specs.Code.HeapBytes.{heap_of}
use Rattle.memb_core.specs.BlockLists.{has_number}
use Rattle.memb_core.specs.BlockPool.{BlockPool}
use Rattle.mote_types.specs.BlockNames.{number_of}
use Rattle.mote_types.specs.declared.call.Call.{Call}
use Rattle.mote_types.specs.declared.reply.Reply.{Reply}
use Rattle.node_memory.specs.Answered.{Asked}
use Rattle.node_memory.specs.Code.Ask.{ask}
use Rattle.node_memory.specs.declared.listed_pool.ListedPool.{ListedPool}
use Rattle.std.proofs.lemmas.List.{get_or-map, length-map, length-set, set-get_or, append-nil, drop-replicate, get_or-set_same, set-set}
use Rattle.std.proofs.lemmas.Option.{slice_get-get_or}
use Rattle.memb_core.specs.Code.Links.{LeavesOthers, list_of, AreLinked}
use Rattle.node_memory.specs.Code.ListCalls.{IsAnswered, is_holder, pool_called}
use Rattle.arena_core.specs.Code.Outside.{ChangesOnly}
use Rattle.memb_core.proofs.Callers.{pool_of-elsewhere, list_of-elsewhere, AreLinked-elsewhere}
use Rattle.heap_core.specs.Code.HeapBytes as heap
use Rattle.mmem_core.specs.Code.HandleTable as managed
use Rattle.mmem_core.specs.ManagedStore.{block_of, ManagedStore, with_block, with_bytes}
use Rattle.memb_core.specs.Code.PoolBytes as pools

abbrev pub listed_of : PoolTable → ListHeads → ListedPool
listed_of pool lists = record { pool = pool; lists = lists }

abbrev pub shown : BlockPool → List ℕ → List ℕ → PoolWithLists
shown pool first second = record { pool = pool; first = first; second = second }

pub same-shown : {p q : BlockPool} {f g s t : List ℕ} → p ≡ q → f ≡ g → s ≡ t → shown p f s ≡ shown q g t
same-shown a b c = rw (a, b, c) refl

pub seen-list : (name : ListName) (pool : PoolTable) (old new : ListHeads) (before after list : List ℕ)
    → LeavesOthers name pool old new before after
    → list_of name new pool after ≡ list → with_list name list (seen (listed_of pool old) before) ≡ seen (listed_of pool new) after
seen-list ListName.First pool old new before after list leaves is =
    same-shown (sym leaves.blocks) (sym is) (sym (leaves.list ListName.Second (λ e. absurd (cc))))
seen-list ListName.Second pool old new before after list leaves is =
    same-shown (sym leaves.blocks) (sym (leaves.list ListName.First (λ e. absurd (cc)))) (sym is)

pub seen-blocks : (lists : ListHeads) (old new : PoolTable) (before after : List ℕ) (blocks : BlockPool)
    → ((name : ListName) → list_of name lists new after ≡ list_of name lists old before)
    → pool_of new after ≡ blocks → with_blocks blocks (seen (listed_of old lists) before) ≡ seen (listed_of new lists) after
seen-blocks lists old new before after blocks same is =
    same-shown (sym is) (sym (same ListName.First)) (sym (same ListName.Second))

module _ (name : ListName) where
  pub list_in-seen : (listed : ListedPool) (bytes : List ℕ)
      → list_in name (seen listed bytes) ≡ list_of name listed.lists listed.pool bytes
  list_in-seen listed bytes = grind arith

-- for the calls of a pool
pub ruleset pool_calls = (list_in-seen, seen-list, seen-blocks)

-- a block is in the list that holds it, and in no other
pub is_holder-is : (name : ListName) (b : ℕ) (lists : ListHeads) (pool : PoolTable) (bytes : List ℕ) → AreLinked lists pool bytes
    → is_holder name (holder_of b (list_of ListName.First lists pool bytes) (list_of ListName.Second lists pool bytes))
    ≡ has_number b (list_of name lists pool bytes)
is_holder-is ListName.First b lists pool bytes linked = grind arith
is_holder-is ListName.Second b lists pool bytes linked =
    grind (arith, linked.apart b ListName.First ListName.Second (λ e. cc))

abbrev pub seen_by : List ℕ → ListedPool → PoolWithLists
seen_by bytes l = seen l bytes

-- only bytes of another span changed
module _ (at len : ℕ) (before after : List ℕ) (changes : ChangesOnly at len before after) where
  seen-elsewhere : (l : ListedPool) → (l.pool.span.at + l.pool.span.len ≤ at) ⊎ (at + len ≤ l.pool.span.at) → seen l after ≡ seen l before
  seen-elsewhere l apart =
      let same = list_of-elsewhere l.pool at len before after changes apart in
      same-shown (pool_of-elsewhere l.pool at len before after changes apart) (same ListName.First l.lists) (same ListName.Second l.lists)

  -- pools that are after those bytes
  pub behind-same : (from : ℕ) (listed : List ListedPool) → at + len ≤ from → LieBehind from listed before
      → LieBehind from listed after × (map (seen_by after) listed ≡ map (seen_by before) listed)
  behind-same from [] le lie = (tt, refl)
  behind-same from (l ∷ later) le lie =
      let apart = inr (omega arith) in
      let rest = behind-same (end_of l.pool.span) later (omega arith) lie.2 in (
        (lie.0, AreLinked-elsewhere l.pool at len before after changes apart l.lists lie.1, rest.0),
        ap₂ (λ s later. s ∷ later) (seen-elsewhere l apart) rest.1,
      )

pub pool-at : (k from : ℕ) (listed : List ListedPool) (l : ListedPool) (bytes : List ℕ) → LieBehind from listed bytes
    → slice_get listed k ≡ Some l → (from ≤ l.pool.span.at) × AreLinked l.lists l.pool bytes
pool-at k from [] l bytes lie there = absurd (cc)
pool-at zero from (first ∷ later) l bytes lie there = grind arith
pool-at (suc k) from (first ∷ later) l bytes lie there =
    let rest = pool-at k (end_of first.pool.span) later l bytes lie.2 there in (omega arith, rest.1)

-- a call on it changed only that one
module _ (d new : ListedPool) (before after : Contents) (linked : AreLinked new.lists new.pool after.bytes) where
  pub one-changed : (k from : ℕ) (listed : List ListedPool) → k < length listed
      → LieBehind from listed before.bytes → pools.KeepsToSpan (get_or listed k d).pool new.pool before after
      → LieBehind from (set listed k new) after.bytes
      × (map (seen_by after.bytes) (set listed k new) ≡ set (map (seen_by before.bytes) listed) k (seen new after.bytes))
  one-changed k from [] lt lie kept = absurd (omega arith)
  one-changed zero from (l ∷ later) lt lie kept =
      let rest = behind-same l.pool.span.at l.pool.span.len before.bytes after.bytes kept.bytes (end_of l.pool.span) later (omega arith)
      lie.2 in
      ((rw kept.span lie.0, linked, rw kept.span rest.0), ap (λ later. seen new after.bytes ∷ later) rest.1)
  one-changed (suc k) from (l ∷ later) lt lie kept =
      let p = (get_or later k d).pool in
      let far : (end_of l.pool.span ≤ p.span.at) ⊎ (p.span.at + p.span.len ≤ l.pool.span.at) =
      inl (pool-at k (end_of l.pool.span) later (get_or later k d) before.bytes lie.2 (slice_get-get_or later k d (omega arith))).0 in
      let rest = one-changed k (end_of l.pool.span) later (omega arith) lie.2 kept in (
        (lie.0, AreLinked-elsewhere l.pool p.span.at p.span.len before.bytes after.bytes kept.bytes far l.lists lie.1, rest.0),
        ap₂ (λ s later. s ∷ later) (seen-elsewhere p.span.at p.span.len before.bytes after.bytes kept.bytes l far) rest.1,
      )

abbrev pub layout_of : HandleTable → Region → List ListedPool → List ℕ → Layout
layout_of table heap listed bytes = record { managed = table; heap = heap; pools = listed; bytes = bytes }

-- one name's block is this one from now on, or none
abbrev pub changed : ℕ → Option (List ℕ) → ManagedStore → ManagedStore
changed name block store = record store { blocks = set store.blocks name block }

-- a call on managed memory left the heap and the pools
module _ {old new : HandleTable} {heap : Region} {listed : List ListedPool} {before after : Contents}
    (laid_out : IsLaidOut (layout_of old heap listed before.bytes)) (kept : managed.KeepsToSpan old new before after) where
  apart : (heap.span.at + heap.span.len ≤ old.span.at) ⊎ (old.span.at + old.span.len ≤ heap.span.at)
  apart = inr laid_out.behind

  heap_same : heap_of heap after.bytes ≡ heap_of heap before.bytes
  heap_same = heap_of-elsewhere heap old.span.at old.span.len before.bytes after.bytes kept.bytes apart laid_out.heap

  pools_same : LieBehind (end_of heap.span) listed after.bytes × (map (seen_by after.bytes) listed ≡ map (seen_by before.bytes) listed)
  pools_same = behind-same old.span.at old.span.len before.bytes after.bytes kept.bytes (end_of heap.span) listed
      (omega arith) laid_out.pools

  pub after-managed : (name : ℕ) (block : Option (List ℕ)) → store_of new after.bytes ≡ changed name block (store_of old before.bytes)
      → IsLaidOut (layout_of new heap listed after.bytes)
  after-managed name block is =
      let names : length new.places ≡ length old.places = grind (arith, length-map, length-set) in
      let still = IsLaidOut-elsewhere heap old.span.at old.span.len before.bytes after.bytes kept.bytes apart laid_out.heap in
      grind (arith, pools_same)

  pub managed-shown : (change : ManagedStore → ManagedStore) → store_of new after.bytes ≡ change (store_of old before.bytes)
      → (m : PlacedMemory) → placed (layout_of old heap listed before.bytes) ≡ m
      → contents_of (layout_of new heap listed after.bytes) ≡ with_managed (change m.contents.managed) m.contents
  managed-shown change is m view = grind (arith, heap_same, pools_same)

  pub frame-is : (slot : ℕ) (frame : Option (List ℕ)) → slot < 8
      → store_of new after.bytes ≡ with_block 3 slot frame (store_of old before.bytes)
      → frame_in slot (contents_of (layout_of new heap listed after.bytes)) ≡ frame
  frame-is slot frame below is =
      let count : length (store_of old before.bytes).blocks ≡ 272 = grind (arith, length-map, block_in) in
      ap (block_of 3 slot) is ∙ get_or-set_same (store_of old before.bytes).blocks (number_of 3 slot) frame None
      (omega (arith, below))

-- a call on the heap left managed memory and the pools
module _ {table : HandleTable} {old new : Region} {listed : List ListedPool} {before after : Contents}
    (laid_out : IsLaidOut (layout_of table old listed before.bytes)) (kept : heap.KeepsToSpan old new before after)
    (now : heap.IsLaidOut new after.bytes) where
  lie_behind : LieBehind (end_of new.span) listed after.bytes × (map (seen_by after.bytes) listed ≡ map (seen_by before.bytes) listed)
  lie_behind = rw kept.span (behind-same old.span.at old.span.len before.bytes after.bytes kept.bytes (end_of old.span) listed (omega arith)
      laid_out.pools)

  pub after_heap : IsLaidOut (layout_of table new listed after.bytes)
  after_heap = grind (arith, lie_behind)

  -- for a memory that shows what was there
  pub heap-shown : (m : PlacedMemory) (h : HeapStore) → placed (layout_of table old listed before.bytes) ≡ m → heap_of new after.bytes ≡ h
      → contents_of (layout_of table new listed after.bytes) ≡ with_heap h m.contents
  heap-shown m h view is = grind (arith, lie_behind)

-- A frame goes into a block that is allocated for it, then written.

written-block : (p h : ℕ) (bytes : List ℕ) (store new : ManagedStore) → number_of p h < length store.blocks
    → new ≡ with_block p h (Some (zeros (length bytes))) store
    → with_bytes p h 0 bytes new ≡ with_block p h (Some bytes) store
written-block p h bytes store new below is = grind (arith, get_or-set_same, drop-replicate, append-nil, set-set)

module _ (slot : ℕ) (bytes : List ℕ) {old new : HandleTable} {heap : Region} {listed : List ListedPool} {before middle after : Contents}
    (laid_out : IsLaidOut (layout_of old heap listed before.bytes)) (below : slot < 8) (made : managed.KeepsToSpan old new before middle)
    (made_is : store_of new middle.bytes ≡ with_block 3 slot (Some (zeros (length bytes))) (store_of old before.bytes))
    (wrote : managed.KeepsToSpan new new middle after)
    (wrote_is : store_of new after.bytes ≡ with_bytes 3 slot 0 bytes (store_of new middle.bytes)) where
  kept : managed.KeepsToSpan old new before after
  kept = grind arith

  is : store_of new after.bytes ≡ with_block 3 slot (Some bytes) (store_of old before.bytes)
  is =
      let count : length (store_of old before.bytes).blocks ≡ 272 = grind (arith, length-map, block_in) in
      wrote_is ∙ written-block 3 slot bytes (store_of old before.bytes) (store_of new middle.bytes) (omega (arith, below)) made_is

  pub after-frame : IsLaidOut (layout_of new heap listed after.bytes)
  after-frame = after-managed laid_out kept _ _ is

  pub frame-shown : (m : PlacedMemory) → placed (layout_of old heap listed before.bytes) ≡ m
      → contents_of (layout_of new heap listed after.bytes) ≡ frame_taken slot bytes m.contents
  frame-shown m view = managed-shown laid_out kept (with_block 3 slot (Some bytes)) is m view

  pub frame-held : frame_in slot (contents_of (layout_of new heap listed after.bytes)) ≡ Some bytes
  frame-held = frame-is laid_out kept slot (Some bytes) below is

module _ {table : HandleTable} {heap : Region} (k : ℕ) {listed : List ListedPool} (d new : ListedPool) {before after : Contents}
    (lt : k < length listed) (laid_out : IsLaidOut (layout_of table heap listed before.bytes))
    (kept : pools.KeepsToSpan (get_or listed k d).pool new.pool before after) (linked : AreLinked new.lists new.pool after.bytes) where
  -- a call on a pool leaves managed memory, the heap and the other pools
  pub after-pool : IsLaidOut (layout_of table heap (set listed k new) after.bytes)
      × (contents_of (layout_of table heap (set listed k new) after.bytes) ≡ with_pool k (seen new after.bytes)
      (contents_of (layout_of table heap listed before.bytes)))
  after-pool =
      let p = (get_or listed k d).pool in
      let far = (pool-at k (end_of heap.span) listed (get_or listed k d) before.bytes laid_out.pools (slice_get-get_or listed k d lt)).0 in
      let rest = one-changed d new before after linked k (end_of heap.span) listed lt laid_out.pools kept in
      let same = heap_of-elsewhere heap p.span.at p.span.len before.bytes after.bytes kept.bytes (inl far) laid_out.heap in
      let still = IsLaidOut-elsewhere heap p.span.at p.span.len before.bytes after.bytes kept.bytes (inl far) laid_out.heap in
      (grind (arith, length-set), grind arith)

  -- a request to a pool is one to the memory
  pub asked-pool : (call : Call) (reply : Reply) (p : ℕ) → nat_lt 3 k ≡ false → pool_called call ≡ Some k
      → IsAnswered call (seen (get_or listed k d) before.bytes) (seen new after.bytes) reply
      → ask call p (contents_of (layout_of table heap listed before.bytes))
      ≡ (contents_of (layout_of table heap (set listed k new) after.bytes), reply)
  asked-pool call reply p known on answered =
      answered k p (contents_of (layout_of table heap listed before.bytes)) known on
      (get_or-map (seen_by before.bytes) listed k d (unused_pool_of 0) lt)
      ∙ ap (λ (changed : Memory). let answer : Asked Memory = (changed, reply) in answer) (sym after-pool.1)

-- a refused call on a pool changed nothing
pub refused-pool : (table : HandleTable) (heap : Region) (k : ℕ) (listed : List ListedPool) (d new : ListedPool) (before after : Contents)
    → (new ≡ get_or listed k d) × (after ≡ before)
    → placed (layout_of table heap (set listed k new) after.bytes) ≡ placed (layout_of table heap listed before.bytes)
refused-pool table heap k listed d new before after same = grind (arith, set-get_or)
