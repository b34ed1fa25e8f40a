-- For those that keep a heap and its arena together.
--     IsLaidOut-apart          the live blocks are apart, headers included
--     heap_of-, IsLaidOut-elsewhere      what the heap shows depends only on the span's bytes
use Rattle.heap_core.proofs.Lemmas.Words.{◌≡◌, ℕ, ◌+◌, ◌≤◌, ◌⊎◌, List, ap, ◌∙◌, arith, Contents, ChangesOnly, Region, Tell, blocks_in, chunks_of, store_of, heap_of, IsLaidOut, KeepsToSpan, BlocksLieApart}
use Rattle.heap_core.proofs.Lemmas.Bodies.{blocks_lie_apart}
use Rattle.heap_core.proofs.Lemmas.ChunkHeaders.{store_with, framed, walked}

pub KeepsToSpan-then : (a b c : Region) (x y z : Contents) → KeepsToSpan a b x y → KeepsToSpan b c y z → KeepsToSpan a c x z
KeepsToSpan-then a b c x y z first second = grind arith

pub IsLaidOut-apart : (heap : Region) (bytes : List ℕ) → IsLaidOut heap bytes → BlocksLieApart heap bytes
IsLaidOut-apart heap bytes laid = blocks_lie_apart laid

module _ (heap : Region) (at len : ℕ) (old new : List ℕ) (changes : ChangesOnly at len old new) (apart : (heap.span.at + heap.span.len ≤ at)
    ⊎ (at + len ≤ heap.span.at)) (laid : IsLaidOut heap old) where
  side : (heap.span.at + heap.footprint ≤ at) ⊎ (at + len ≤ heap.span.at + 0)
  side = grind arith

  told : Tell heap.header new heap.span.at 0 heap.footprint (chunks_of heap old)
      × (blocks_in heap.header new heap.span.at (chunks_of heap old) ≡ (store_of heap old).blocks)
  told = framed heap.header old new heap.span.at at len changes 0 heap.footprint (chunks_of heap old) side laid.chunks.told

  same : chunks_of heap new ≡ chunks_of heap old
  unfolding chunks_of
  same = walked heap.header heap.footprint new heap.span.at 0 heap.footprint (chunks_of heap old) told.0 (omega arith)

  store_same : store_of heap new ≡ store_of heap old
  store_same = ap (store_with heap) (ap (blocks_in heap.header new heap.span.at) same ∙ told.1)

  pub heap_of-elsewhere : heap_of heap new ≡ heap_of heap old
  heap_of-elsewhere = grind (arith, store_same)

  pub IsLaidOut-elsewhere : IsLaidOut heap new
  IsLaidOut-elsewhere = grind (arith, told, same, store_same)
