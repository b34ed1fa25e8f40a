-- A refused call leaves everything in its position.
use Rattle.arena_core.specs.Code.Extents.{Extent}
use Rattle.arena_core.specs.declared.span.Span.{Span}
use Rattle.heap_core.specs.HeapStore.{HeapStore, Block}
use Rattle.heap_core.specs.declared.region.Region.{Region}
use Rattle.mmem_core.specs.Code.HandleTable.{HandleTable}
use Rattle.node_memory.specs.Memory.{Memory}
use Rattle.node_memory.specs.Code.Placed.{PlacedMemory, contents_of, placed}
use Rattle.node_memory.specs.Code.Conditions.{IfRefused}
use Rattle.node_memory.specs.Code.Separation.{BlockName, extent_named, extent_in_pool, LeavesAll, lacks_place}
use Rattle.std.proofs.Common.{Option, ◌≡◌, ℕ, zero, suc, ◌+◌, true, List, [], ◌∷◌, map, drop, refl, ap, ◌∙◌, arith, slice_get, sym}
use Rattle.std.specs.Option.{option_map}
use Rattle.heap_core.specs.Code.HeapBytes.{heap_of}
use Rattle.mote_types.specs.declared.call.Call.{Call}
use Rattle.mote_types.specs.declared.refusal.Refusal.{Refusal}
use Rattle.mote_types.specs.declared.reply.Reply.{Reply}
use Rattle.node_memory.specs.declared.listed_pool.ListedPool.{ListedPool}
use Rattle.heap_core.specs.Code.Separation.{live_block}
use Rattle.node_memory.proofs.LaidOut.{layout_of, seen_by}

pools_stay : (listed : List ListedPool) (before after : List ℕ) (b k : ℕ) → map (seen_by after) listed ≡ map (seen_by before) listed
    → extent_in_pool b after (slice_get listed k) ≡ extent_in_pool b before (slice_get listed k)
pools_stay [] before after b k e = refl
pools_stay (l ∷ later) before after b zero e = grind arith
pools_stay (l ∷ later) before after b (suc k) e = pools_stay later before after b k (ap (drop 1) e)

abbrev extent : Span → HeapStore → ℕ → ℕ → Option Extent
extent span heap p b =
    option_map (λ (block : Block). (record { at = span.at + block.at; len = heap.header + block.room })) (live_block p b heap)

pub refused_leaves : (call : Call) (reply : Reply) (old new : PlacedMemory) → IfRefused reply (new ≡ old)
    → IfRefused reply (LeavesAll call reply old new)
refused_leaves call reply old new refused = grind arith

module _ (table : HandleTable) (old new : Region) (listed : List ListedPool) where
  -- the heap shows the same, in the same span
  extents : (before after : List ℕ) → new.span ≡ old.span
      → contents_of (layout_of table new listed after) ≡ contents_of (layout_of table old listed before) → (name : BlockName)
      → extent_named name (layout_of table new listed after) ≡ extent_named name (layout_of table old listed before)
  extents before after span same (BlockName.Managed p h) = refl
  extents before after span same (BlockName.Heap p b) =
      ap (λ s. extent s (heap_of new after) p b) span ∙ ap (λ (m : Memory). extent old.span m.heap p b) same
  extents before after span same (BlockName.Pooled k b) =
      pools_stay listed before after b k (ap (λ (m : Memory). m.pools) same)

  pub heap_leaves : (before after : List ℕ)
      (m : PlacedMemory) (call : Call)
      → new.span ≡ old.span → placed (layout_of table old listed before) ≡ m → contents_of (layout_of table new listed after) ≡ m.contents
      → lacks_place call (Reply.Refused Refusal.NoRoom) ≡ true
      → LeavesAll call (Reply.Refused Refusal.NoRoom) m (placed (layout_of table new listed after))
  heap_leaves before after m call span view same lacks =
      let shown = same ∙ ap (λ (m : PlacedMemory). m.contents) (sym view) in
      rw (← view) record {
        blocks = record { contents = shown; extents = extents before after span shown };
        rest = λ e. cc;
      }
