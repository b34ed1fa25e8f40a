-- The heap after a block was resized.
use Rattle.heap_core.proofs.Lemmas.Words.{◌≡◌, ℕ, ◌≤◌, List, ◌∙◌, arith, Option, option_map, number_of, resized, Chunk, Place, Region, Block, HeapStore, find_block, place, room_in_place, moved, reallocated, block_at, with_block, without_block, block_in_chunk, place_in_chunk, at_place, without_place, bytes_in_chunk, Some, None}
use Rattle.heap_core.proofs.Lemmas.ChunkHeaders.{count}
use Rattle.heap_core.proofs.Lemmas.Names.{named_with, count_filter, count_unnamed}

named_moved : (store : HeapStore) (block : Block) (n : ℕ) → ((other : ℕ) → count other store.blocks ≤ 1)
    → (o : Option Place) (new : HeapStore) → option_map (λ place. moved place block n store) o ≡ Some new → (other : ℕ)
    → count other new.blocks ≤ 1
named_moved store block n named o new e other = grind (arith, named_with, count_unnamed, count_filter)

-- a block that is resized, and its chunk
pub record Resizing (heap : Region) (B : List ℕ) (store : HeapStore) (chunk : Chunk) (p h name n : ℕ) : Type 0 where
  pub left : without_place chunk.at store ≡ without_block name store
  pub same : name ≡ number_of p h
  pub found : find_block name store ≡ Some (block_in_chunk heap.header B heap.span.at name chunk)

module _ {heap : Region} {B : List ℕ} {store : HeapStore} {chunk : Chunk} {p h name n : ℕ}
    (z : Resizing heap B store chunk p h name n) where
  abbrev block : Block
  block = block_in_chunk heap.header B heap.span.at name chunk

  abbrev at_new : Place → HeapStore → HeapStore
  at_new target left = with_block (block_at target name (resized n (bytes_in_chunk heap.header B heap.span.at chunk))) left

  pub in_place : (room : ℕ) (new : HeapStore) → room_in_place (place_in_chunk heap.header chunk) n store ≡ Some room
      → new ≡ at_new (at_place chunk.at room) (without_place chunk.at store) → reallocated p h n store ≡ Some new
  in_place room new e f = grind arith

  elsewhere_is : room_in_place (place_in_chunk heap.header chunk) n store ≡ None
      → reallocated p h n store ≡ option_map (λ target. at_new target (without_place chunk.at store)) (place n store)
  elsewhere_is e = grind arith

  pub moved_elsewhere : (new : HeapStore) → room_in_place (place_in_chunk heap.header chunk) n store ≡ None
      → option_map (λ target. at_new target (without_place chunk.at store)) (place n store) ≡ Some new → reallocated p h n store ≡ Some new
  moved_elsewhere new e f = elsewhere_is e ∙ f

  pub moved_nowhere : room_in_place (place_in_chunk heap.header chunk) n store ≡ None → place n store ≡ None
      → reallocated p h n store ≡ None
  moved_nowhere e f = grind arith

  pub named_after : ((other : ℕ) → count other store.blocks ≤ 1) → (new : HeapStore) → reallocated p h n store ≡ Some new → (other : ℕ)
      → count other new.blocks ≤ 1
  named_after named new e = grind (arith, named_moved)
