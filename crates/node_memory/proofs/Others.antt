-- A call leaves every block that it does not name.
use Rattle.mmem_core.specs.ManagedStore.{with_block}
use Rattle.mote_types.specs.Bytes.{zeros, overwritten, resized}
use Rattle.mote_types.specs.Code.Conditions.{IsName}
use Rattle.node_memory.specs.Answered.{unless_refused}
use Rattle.node_memory.specs.Code.Conditions.{MayAsk}
use Rattle.node_memory.specs.Memory.{Memory, with_managed}
use Rattle.node_memory.specs.Code.Separation.{BlockName, changed_block, frame_block, LeavesOthers}
use Rattle.std.proofs.Common.{arith, ◌≡◌, ◌≢◌, ◌⊎◌, inl, inr, ℕ, zero, suc, true, List, [], ◌∷◌, set, get_or, refl, ap₂, ◌≤◌, Option, Some, None, length, subst}
use Rattle.std.proofs.lemmas.List.{get_or-set_other}
use Rattle.std.specs.Option.{option_map}
use Rattle.mote_types.specs.BlockNames.{number_of}
use Rattle.mote_types.specs.declared.call.Call.{Call}
use Rattle.mote_types.specs.declared.refusal.Refusal.{Refusal}
use Rattle.mote_types.specs.declared.reply.Reply.{Reply}
use Rattle.node_memory.specs.Answered.{Asked}
use Rattle.node_memory.specs.Code.Ask.{ask}
use Rattle.node_memory.proofs.HeapBlocks.{Results, alloc-results, realloc-results, free-results, write-results}
use Rattle.node_memory.specs.BlockRefusals.{is_name, alloc_refusal, live_refusal, write_refusal, realloc_refusal}
use Rattle.heap_core.specs.HeapStore.{allocated, block_of, freed, reallocated, with_bytes, HeapStore}
use Rattle.node_memory.specs.HeapCalls.{done_or_no_room}
use Rattle.node_memory.specs.MemoryCalls.{on_heap}

get-set : {X : Type 0} (xs : List X) (k j : ℕ) (x d : X) → (get_or (set xs k x) j d ≡ get_or xs j d)
    ⊎ ((j ≡ k) × (get_or (set xs k x) j d ≡ x))
get-set [] k j x d = inl refl
get-set (y ∷ ys) zero zero x d = inr (refl, refl)
get-set (y ∷ ys) zero (suc j) x d = inl refl
get-set (y ∷ ys) (suc k) zero x d = inl refl
get-set (y ∷ ys) (suc k) (suc j) x d = let later = get-set ys k j x d in grind arith

number-differs : (p h q g : ℕ) → 3 ≤ p → is_name h ≡ true → IsName q g → (p ≡ q → h ≡ g → ⊥) → number_of p h ≢ number_of q g
number-differs p h q g low named other ne same = grind arith

pub leaves-block : (p h : ℕ) (block : Option (List ℕ)) (old : Memory) → 3 ≤ p → is_name h ≡ true
    → LeavesOthers (Some (BlockName.Managed p h)) old (with_managed (with_block p h block old.managed) old)
leaves-block p h block old low few name named differs = grind (arith, get_or-set_other)

pub leaves-frame : (slot : ℕ) (block : Option (List ℕ)) (old : Memory) → slot ≤ 15
    → LeavesOthers (Some (frame_block slot)) old (with_managed (with_block 3 slot block old.managed) old)
leaves-frame slot block old low = grind (arith, get_or-set_other)

-- a call on a block in the heap that succeeds
leaves-heap : (p b : ℕ) (bytes : Option (List ℕ)) (old : Memory) (found : Option HeapStore) (refusal : Option Refusal) → 3 ≤ p
    → (refusal ≡ None → is_name b ≡ true)
    → (refusal ≡ None → Results p b bytes old.heap found)
    → LeavesOthers (Some (BlockName.Heap p b)) old (on_heap (λ heap. unless_refused refusal heap (done_or_no_room found heap)) old).0
leaves-heap p b bytes old found (Some refusal) low few results = λ other named differs. refl
leaves-heap p b bytes old None None low few results = λ other named differs. refl
leaves-heap p b bytes old (Some new) None low few results =
    λ name named differs. (grind (arith, number-differs, ap₂, ((results refl).each new refl).each))

-- a call of any process but 0 to 2
pub leaves : (call : Call) (p : ℕ) (old : Memory) → 3 ≤ p → LeavesOthers (changed_block call p old) old (ask call p old).0
leaves (Call.HeapAlloc b n) p old low =
    leaves-heap p b (Some (zeros n)) old (allocated p b n old.heap) (alloc_refusal b n (block_of p b old.heap)) low
    (λ e. grind (arith, e)) (alloc-results p b n old.heap)
leaves (Call.HeapRealloc b n) p old low =
    leaves-heap p b (option_map (resized n) (block_of p b old.heap)) old (reallocated p b n old.heap)
    (realloc_refusal b n (block_of p b old.heap)) low (λ e. grind (arith, e)) (λ e. realloc-results p b n old.heap)
leaves (Call.HeapFree b) p old low =
    leaves-heap p b None old (Some (freed p b old.heap)) (live_refusal b (block_of p b old.heap)) low (λ e. grind arith)
    (λ e. free-results p b old.heap)
leaves (Call.HeapWrite b at chunk) p old low =
    leaves-heap p b (option_map (overwritten at chunk.items) (block_of p b old.heap)) old
    (Some (with_bytes p b at chunk.items old.heap)) (write_refusal b at (length chunk.items) (block_of p b old.heap)) low
    (λ e. grind (arith, e))
    (λ e. write-results p b at chunk.items old.heap)
leaves _ p old low = grind (arith, get-set)

-- the blocks that the call does not name
pub leaves-asked : (call : Call) (p : ℕ) (old new : Memory) (reply : Reply) → MayAsk p → ask call p old ≡ (new, reply)
    → LeavesOthers (changed_block call p old) old new
leaves-asked call p old new reply may asked =
    subst (λ (a : Asked Memory). LeavesOthers (changed_block call p old) old a.0) asked (leaves call p old may.0)
