-- The bytes under every name after each call on the heap.
use Rattle.mote_types.specs.Bytes.{zeros, overwritten, resized}
use Rattle.node_memory.specs.Answered.{unless_refused, done}
use Rattle.node_memory.specs.BlockRefusals.{alloc_refusal}
use Rattle.node_memory.specs.HeapCalls.{done_or_no_room}
use Rattle.node_memory.specs.MemoryCalls.{on_heap}
use Rattle.node_memory.specs.Memory.{Memory, with_heap}
use Rattle.std.proofs.Common.{◌≡◌, ℕ, true, false, List, [], ◌∷◌, refl, arith, map, Option, Some, None, subst, not, filter, find, if◌then◌else◌, is_some, ◌==◌}
use Rattle.std.specs.Option.{option_map_or, option_map}
use Rattle.mote_types.specs.BlockNames.{number_of}
use Rattle.mote_types.specs.declared.refusal.Refusal.{Refusal}
use Rattle.mote_types.specs.declared.reply.Reply.{Reply}
use Rattle.heap_core.specs.declared.chunk.Place.{Place}
use Rattle.heap_core.specs.HeapStore.{block_of, placed, with_block, place_of, with_bytes, Block, HeapStore, block_at, reallocated, has_name, find_block, place, without_block, allocated, freed, new_place, moved, resized_block}

abbrev pub bytes_in : ℕ → List Block → Option (List ℕ)
bytes_in name blocks = option_map (λ (block : Block). block.bytes) (find (has_name name) blocks)

-- a block more, a block less, and other bytes of one block

added : (block : Block) (name : ℕ) (blocks : List Block) → bytes_in block.name blocks ≡ None
    → bytes_in name (placed block blocks) ≡ (if block.name == name then Some block.bytes else bytes_in name blocks)
added block name [] e = grind arith
added block name (x ∷ xs) e = grind (arith, added block name xs)

removed : (gone name : ℕ) (blocks : List Block)
    → bytes_in name (filter (λ block. not (has_name gone block)) blocks) ≡ (if gone == name then None else bytes_in name blocks)
removed gone name [] = grind arith
removed gone name (x ∷ xs) = grind (arith, removed gone name xs)

rewritten : (changed : ℕ) (change : List ℕ → List ℕ) (name : ℕ) (blocks : List Block)
    → bytes_in name (map (λ block. if has_name changed block then record block { bytes = change block.bytes } else block) blocks)
    ≡ (if changed == name then option_map change (bytes_in changed blocks) else bytes_in name blocks)
rewritten changed change name [] = grind arith
rewritten changed change name (x ∷ xs) = grind (arith, rewritten changed change name xs)

module _ (name : ℕ) where
  found : (block : Block) (blocks : List Block) → find (has_name name) blocks ≡ Some block → block.name ≡ name
  found block [] e = absurd (cc)
  found block (x ∷ xs) e = grind (arith, found block xs)

  -- one name stands for these bytes from now on, or for none
  pub record Becomes (bytes : Option (List ℕ)) (old new : HeapStore) : Type 0 where
    pub each : (other : ℕ) → bytes_in other new.blocks ≡ (if name == other then bytes else bytes_in other old.blocks)

moved-becomes : (at : Place) (block : Block) (n : ℕ) (heap : HeapStore)
    → Becomes block.name (Some (resized n block.bytes)) heap (moved at block n heap)
moved-becomes at block n heap =
    record {
      each = λ other.
          let same : (block.name == block.name) ≡ true = grind arith in
          grind (
            arith,
            removed,
            added (block_at at block.name (resized n block.bytes)) other (without_block block.name heap).blocks
                (grind (arith, removed)),
          );
    }

none_live : (o : Option (List ℕ)) → is_some o ≡ false → o ≡ None
none_live o e = grind arith

module _ {refusal : Option Refusal} (m : Memory) {new : Memory} (accepted : refusal ≡ None) where
  pub asked-done : {heap : HeapStore} → new ≡ with_heap heap m
      → on_heap (λ old. unless_refused refusal old (done heap)) m ≡ (new, Reply.Done)
  asked-done changed = grind arith

  pub asked-found : {found : Option HeapStore} {heap : HeapStore} → found ≡ Some heap → new ≡ with_heap heap m
      → on_heap (λ old. unless_refused refusal old (done_or_no_room found old)) m ≡ (new, Reply.Done)
  asked-found is changed = grind arith

  pub asked-no-room : {found : Option HeapStore} → found ≡ None → new ≡ m
      → on_heap (λ old. unless_refused refusal old (done_or_no_room found old)) m ≡ (new, Reply.Refused Refusal.NoRoom)
  asked-no-room is same = grind arith

module _ (p b : ℕ) where
  module _ (bytes : Option (List ℕ)) (old : HeapStore) where
    pub record Results (result : Option HeapStore) : Type 0 where
      pub each : (new : HeapStore) → result ≡ Some new → Becomes (number_of p b) bytes old new

    one_result : (new : HeapStore) → Becomes (number_of p b) bytes old new
        → Results (Some new)
    one_result new becomes = grind arith

    placed_result : (put : Place → HeapStore) (found : Option Place)
        → ((spot : Place) → Becomes (number_of p b) bytes old (put spot)) → Results (option_map put found)
    placed_result put None becomes = record { each = λ new e. absurd (cc) }
    placed_result put (Some spot) becomes = one_result (put spot) (becomes spot)

  pub write-results : (at : ℕ) (bytes : List ℕ) (heap : HeapStore)
      → Results (option_map (overwritten at bytes) (block_of p b heap)) heap (Some (with_bytes p b at bytes heap))
  write-results at bytes heap =
      one_result (option_map (overwritten at bytes) (block_of p b heap)) heap (with_bytes p b at bytes heap)
      (record { each = λ other. rewritten (number_of p b) (overwritten at bytes) other heap.blocks })

  module _ (n : ℕ) (heap : HeapStore) where
    pub alloc-results : alloc_refusal b n (block_of p b heap) ≡ None
        → Results (Some (zeros n)) heap (allocated p b n heap)
    alloc-results e =
        let unused = none_live (block_of p b heap) (grind (arith, e)) in
        placed_result (Some (zeros n)) heap (λ place. with_block (block_at place (number_of p b) (zeros n)) heap) (place n heap)
        (λ spot. record { each = λ other. added (block_at spot (number_of p b) (zeros n)) other heap.blocks unused })

    pub realloc-results : Results (option_map (resized n) (block_of p b heap)) heap (reallocated p b n heap)
    realloc-results = of_block (find_block (number_of p b) heap) refl
      where
        of_block : (o : Option Block) → find_block (number_of p b) heap ≡ o
            → Results (option_map (resized n) (option_map (λ (block : Block). block.bytes) o)) heap
            (option_map_or (λ block. resized_block block n heap) o None)
        of_block None e = record { each = λ new f. absurd (cc) }
        of_block (Some block) e =
            placed_result (Some (resized n block.bytes)) heap (λ place. moved place block n heap) (new_place (place_of block) n heap)
            (λ spot. subst (λ (k : ℕ). Becomes k (Some (resized n block.bytes)) heap (moved spot block n heap))
            (found (number_of p b) block heap.blocks e) (moved-becomes spot block n heap))

  module _ (heap : HeapStore) where
    pub free-results : Results None heap (Some (freed p b heap))
    free-results = grind (arith, removed)
