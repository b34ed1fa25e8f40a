-- What each call preserves of a kind of memory, and so what a transcript shows.
use Rattle.std.proofs.Common.{◌≡◌, ℕ, ◌+◌, ◌≤◌, Bool, true, false, List, [], ◌∷◌, refl, Option, Some, None, ◌==◌, if◌then◌else◌, fold, length, zero, suc, arith, sum_by, ◌&&◌, ◌∙◌, ap, sym, subst, append-nil, nat_le, drop, slice_get, get_or, replicate}
use Rattle.mmem_core.specs.ManagedStore.{with_block}
use Rattle.node_memory.specs.Answered.{Asked, done, unless_refused}
use Rattle.node_memory.specs.MemoryCalls.{on_heap, on_managed}
use Rattle.node_memory.specs.BlockRefusals.{alloc_refusal, realloc_refusal}
use Rattle.node_memory.specs.HeapCalls.{done_or_no_room}
use Rattle.node_memory.specs.Memory.{with_heap, with_managed}
use Rattle.node_memory.specs.Code.Conditions.{is_memory_call}
use Rattle.std.proofs.lemmas.List.{get_or-set_other, get_or-set_same, length-set}
use Rattle.std.proofs.lemmas.List.Sums.{sum_by-set}
use Rattle.std.specs.Option.{option_map}
use Rattle.kernel_core.proofs.Common.{decide, list_all-append, Call, Reply, Refusal, Entry, OwnTurn, own_from, reply_in, reply_of, is_done, ticks_in, up_to_call, Blocks, no_blocks, Memory, is_kernel_process, AreOwn, IsReplyFor, Deed, Touch, blocks_of, deed, use_of, number_of, size_of, taken_by, block_of, is_name, ask, managed_touch, heap_touch, list_all, Frame, front_slot, Config, Machine, booted, after_call, frame_dropped}
use Rattle.kernel_core.proofs.run_laws.Whole.{Knowledge, told, told_all, answered, marks, due, View, Laws, Starts, run-told, call-law}
use Rattle.heap_core.specs.HeapStore.{block_of as heap_block_of, HeapStore}
use Rattle.node_memory.proofs.HeapBlocks.{Becomes, Results, alloc-results, realloc-results, free-results, write-results}
use Rattle.kernel_core.proofs.run_laws.event_order.Runs.{Ran}

abbrev pub accepted : (Deed → Touch) → Call → Reply → Blocks → Blocks
accepted touch call reply blocks = if is_done (Some reply) then (use_of (touch (deed call))).changes blocks else blocks

abbrev pub alters : Touch → Bool
alters (Touch.Reads name at len) = false
alters (Touch.Sends name) = false
alters Touch.TellsFree = false
alters Touch.Spares = false
alters _ = true

pub same_blocks : (f g : Blocks) → ((h : ℕ) → f h ≡ g h) → f ≡ g
same_blocks = grind decide

-- a kind of memory: what calls do to its blocks, and the blocks of a process in it
pub record Store : Type 0 where
  pub touch : Deed → Touch
  pub blocks : ℕ → Memory → Blocks

abbrev at_first : Knowledge Blocks
at_first = record { now = no_blocks; last = None }

module _ (touch : Deed → Touch) (p : ℕ) where
  abbrev over : Blocks → List OwnTurn → Blocks
  over b turns = fold (λ blocks turn. if is_done turn.reply then (use_of (touch (deed turn.call))).changes blocks else blocks) b turns

  no_answer : (last : Option Call) (b : Blocks) → answered (accepted touch) last None b ≡ b
  no_answer = grind decide

  -- a fold over p's own turns gives the same as one over all entries
  own-told : (entries : List Entry) (clock : ℕ) (last : Option Call) (b : Blocks)
      → over (answered (accepted touch) last (reply_in p entries) b) (own_from p clock entries)
      ≡ (fold (told (accepted touch) p) (record { now = b; last = last }) entries).now
  own-told [] clock last b = no_answer last b
  own-told (Entry.Turn pid origin stimulus call ∷ later) clock last b =
      grind (
        decide,
        own-told later (clock + 0) (Some call) (answered (accepted touch) last (reply_of stimulus) b),
        own-told later (clock + 0) last b,
      )
  own-told (entry ∷ later) clock last b = own-told later (clock + ticks_in entry) last b

  pub blocks-told : (entries : List Entry) → blocks_of touch entries p ≡ (told_all (accepted touch) p at_first entries).now
  blocks-told = grind (decide, own-told)

module _ (touch : Deed → Touch) where
  -- the reply fits the caller's blocks
  abbrev pub KindLaw : Blocks → Call → Reply → Type 0
  KindLaw blocks call reply = IsReplyFor (use_of (touch (deed call))) blocks reply

-- What each call preserves of managed memory.

abbrev pub own_blocks : ℕ → Memory → Blocks
own_blocks p m h = if is_name h then block_of p h m.managed else None

put_other : (q k p h : ℕ) (block : Option (List ℕ)) (m : Memory) → (q == p) ≡ false → is_kernel_process p ≡ false → is_name k ≡ true
    → own_blocks p (with_managed (with_block q k block m.managed) m) h ≡ own_blocks p m h
put_other = grind (decide, get_or-set_other)

-- 272 names have positions
put_own : (p k h : ℕ) (block : Option (List ℕ)) (m : Memory) → p ≤ 19 → is_kernel_process p ≡ false → length m.managed.blocks ≡ 272
    → is_name k ≡ true
    → own_blocks p (with_managed (with_block p k block m.managed) m) h ≡ (if h == k then block else own_blocks p m h)
put_own = grind (decide, get_or-set_same, get_or-set_other)

-- the sizes of p's blocks and of all blocks change by the same amount
put_total : (p k : ℕ) (block : Option (List ℕ)) (m : Memory) → p ≤ 19 → is_kernel_process p ≡ false → length m.managed.blocks ≡ 272
    → is_name k ≡ true
    → sum_by size_of (with_block p k block m.managed).blocks + taken_by p m.managed ≡ sum_by size_of m.managed.blocks + taken_by p
    (with_block p k block m.managed)
put_total = grind (decide, get_or-set_same, get_or-set_other, sum_by-set)

-- only the blocks change
pub record HasShape (old new : Memory) : Type 0 where
  pub size : length new.managed.blocks ≡ length old.managed.blocks
  pub capacity : new.managed.capacity ≡ old.managed.capacity
  pub quota : new.managed.quota ≡ old.managed.quota

abbrev pub managed_store : Store
managed_store = record { touch = managed_touch; blocks = own_blocks }

pub record IsChange (store : Store) (call : Call) (q : ℕ) (m : Memory) (asked : Asked Memory) : Type 0 where
  pub own : q ≤ 19 → is_kernel_process q ≡ false → length m.managed.blocks ≡ 272
      → store.blocks q asked.0 ≡ accepted store.touch call asked.1 (store.blocks q m)
  pub others : (p : ℕ) → (q == p) ≡ false → is_kernel_process p ≡ false → store.blocks p asked.0 ≡ store.blocks p m

module _ (call : Call) where
  -- other calls leave managed memory unchanged
  pub ask-rest : (p : ℕ) (m : Memory) → alters (managed_touch (deed call)) ≡ false → (ask call p m).0.managed ≡ m.managed
  ask-rest = grind decide

  pub record IsManagedChange (q : ℕ) (m : Memory) (asked : Asked Memory) : Type 0 where
    pub shape : HasShape m asked.0
    pub total : q ≤ 19 → is_kernel_process q ≡ false → length m.managed.blocks ≡ 272
        → sum_by size_of asked.0.managed.blocks + taken_by q m.managed ≡ sum_by size_of m.managed.blocks + taken_by q asked.0.managed
    pub blocks : IsChange managed_store call q m asked

  -- the call is refused, or a block is replaced
  module _ (q k : ℕ) (block : Option (List ℕ)) (m : Memory) where
    is_change : (o : Option Refusal) → (o ≡ None → is_name k ≡ true)
        → (o ≡ None → (h : ℕ) → (if h == k then block else own_blocks q m h)
        ≡ (use_of (managed_touch (deed call))).changes (own_blocks q m) h)
        → IsManagedChange q m (on_managed (λ store. unless_refused o store (done (with_block q k block store))) m)
    is_change None low made =
        record {
          shape = record { size = length-set m.managed.blocks (number_of q k) block; capacity = refl; quota = refl };
          total = λ few ours size. put_total q k block m few ours size (low refl);
          blocks =
              record {
                own = λ few ours size. same_blocks _ _ (λ h. put_own q k h block m few ours size (low refl) ∙ made refl h);
                others = λ p n ours. same_blocks _ _ (λ h. put_other q k p h block m n ours (low refl));
              };
        }
    is_change (Some refusal) low made =
        record {
          shape = record { size = refl; capacity = refl; quota = refl };
          total = λ few ours size. refl;
          blocks = record { own = λ few ours size. refl; others = λ p n ours. refl };
        }

pub managed-change : (call : Call) (q : ℕ) (m : Memory) → alters (managed_touch (deed call)) ≡ true
    → IsManagedChange call q m (ask call q m)
managed-change (Call.MmemAlloc k n) q m c = is_change _ q k _ m _ (grind decide) (grind decide)
managed-change (Call.MmemFree k) q m c = is_change _ q k _ m _ (grind decide) (grind decide)
managed-change (Call.MmemWrite k at chunk) q m c = is_change _ q k _ m _ (grind decide) (grind decide)
managed-change (Call.MmemCopy source target) q m c = is_change _ q target _ m _ (grind decide) (grind decide)
managed-change call q m c = grind decide

-- A process's heap blocks after its calls.

abbrev own_heap : ℕ → Memory → Blocks
own_heap p m b = if is_name b then heap_block_of p b m.heap else None

abbrev pub heap_store : Store
heap_store = record { touch = heap_touch; blocks = own_heap }

same_shape : (old new : Memory) → new.managed ≡ old.managed → HasShape old new
same_shape = grind decide

pub ask-shape : (call : Call) (q : ℕ) (m : Memory) → HasShape m (ask call q m).0
ask-shape call q m = shaped (alters (managed_touch (deed call))) refl
  where
    shaped : (b : Bool) → alters (managed_touch (deed call)) ≡ b → HasShape m (ask call q m).0
    shaped true e = (managed-change call q m e).shape
    shaped false e = same_shape m (ask call q m).0 (ask-rest call q m e)

module _ (call : Call) (q k : ℕ) (bytes : Option (List ℕ)) (m : Memory) where
  module _ (new : HeapStore) where
    becomes_own : Becomes (number_of q k) bytes m.heap new → is_name k ≡ true → (h : ℕ)
        → own_heap q (with_heap new m) h ≡ (if h == k then bytes else own_heap q m h)
    becomes_own = grind decide

    becomes_other : Becomes (number_of q k) bytes m.heap new → is_name k ≡ true → (p : ℕ) → (q == p) ≡ false
        → is_kernel_process p ≡ false → (h : ℕ)
        → own_heap p (with_heap new m) h ≡ own_heap p m h
    becomes_other = grind decide

  is_heap_change : (o : Option Refusal) (result : Option HeapStore) → (o ≡ None → is_name k ≡ true)
      → (o ≡ None → Results q k bytes m.heap result)
      → (o ≡ None → (h : ℕ) → (if h == k then bytes else own_heap q m h) ≡ (use_of (heap_touch (deed call))).changes (own_heap q m) h)
      → IsChange heap_store call q m (on_heap (λ heap. unless_refused o heap (done_or_no_room result heap)) m)
  is_heap_change None (Some new) low results made =
      let becomes = (results refl).each new refl in
      record {
        own = λ few ours size. same_blocks _ _ (λ h. becomes_own new becomes (low refl) h ∙ made refl h);
        others = λ p n ours. same_blocks _ _ (λ h. becomes_other new becomes (low refl) p n ours h);
      }
  is_heap_change None None low results made = record { own = λ few ours size. refl; others = λ p n ours. refl }
  is_heap_change (Some refusal) result low results made = record { own = λ few ours size. refl; others = λ p n ours. refl }

heap-change : (call : Call) (q : ℕ) (m : Memory) → alters (heap_touch (deed call)) ≡ true → IsChange heap_store call q m (ask call q m)
heap-change (Call.HeapAlloc k n) q m c =
    is_heap_change _ q k _ m _ _ (grind decide) (alloc-results q k n m.heap) (grind decide)
heap-change (Call.HeapRealloc k n) q m c =
    is_heap_change _ q k _ m _ _ (grind decide) (λ e. realloc-results q k n m.heap) (grind decide)
heap-change (Call.HeapFree k) q m c =
    is_heap_change _ q k _ m _ _ (grind decide) (λ e. free-results q k m.heap) (grind decide)
heap-change (Call.HeapWrite k at chunk) q m c =
    is_heap_change _ q k _ m _ _ (grind decide) (λ e. write-results q k at chunk.items m.heap) (grind decide)
heap-change call q m c = grind decide

-- A process's blocks are what its own calls make of them: after each call, and so in every run.

pub one_reply : (o : Option Reply) (a b : Reply) → o ≡ Some a → o ≡ Some b → a ≡ b
one_reply = grind decide

module _ (P : Memory → List Frame → Type 0) (q : ℕ) (m : Machine) (same : P m.memory m.packets.frames)
    (dropped : (slot : ℕ) → front_slot m.packets ≡ Some slot → P (frame_dropped slot m.memory) (drop 1 m.packets.frames)) where
  pub each-call : (call : Call) → P (ask call q m.memory).0 m.packets.frames
      → P (after_call call q m).memory (after_call call q m).packets.frames
  each-call = grind decide

-- 272 names have positions, and frames are under names of process 3

abbrev are_slots : List Frame → Bool
are_slots frames = list_all (λ frame. nat_le frame.slot 15) frames

pub record IsSound (m : Memory) (frames : List Frame) : Type 0 where
  pub size : length m.managed.blocks ≡ 272
  pub slots : are_slots frames ≡ true

front_low : (frames : List Frame) (slot : ℕ) → are_slots frames ≡ true
    → option_map (λ (frame : Frame). frame.slot) (slice_get frames 0) ≡ Some slot → nat_le slot 15 ≡ true
front_low [] slot h e = absurd (cc)
front_low (frame ∷ frames) slot h e = grind decide

module _ (store : Store) where
  -- each call preserves what it must
  pub record Keeps : Type 0 where
    pub law : (call : Call) (p : ℕ) (m : Machine) (reply : Reply)
        → due (marks p (after_call call p m).scheduler.agenda) ≡ Some reply → KindLaw store.touch (store.blocks p m.memory) call reply
    pub asked : (call : Call) → alters (store.touch (deed call)) ≡ true → is_memory_call call ≡ true
    pub change : (call : Call) (q : ℕ) (m : Memory) → alters (store.touch (deed call)) ≡ true → IsChange store call q m (ask call q m)
    pub rest : (call : Call) (q p : ℕ) (m : Memory) → alters (store.touch (deed call)) ≡ false → store.blocks p (ask call q m).0
        ≡ store.blocks p m
    -- storing or dropping a frame
    pub framed : (slot p : ℕ) (bytes : Option (List ℕ)) (m : Memory) → nat_le slot 15 ≡ true → is_kernel_process p ≡ false
        → store.blocks p (with_managed (with_block 3 slot bytes m.managed) m) ≡ store.blocks p m
    pub boot : (p : ℕ) (c : Config) → store.blocks p (booted c).memory ≡ no_blocks

  -- the machine has the blocks that p's turns made
  pub record HasBlocks (p : ℕ) (m : Memory) (frames : List Frame) (blocks : Blocks) : Type 0 where
    pub sound : IsSound m frames
    pub own : is_kernel_process p ≡ false → store.blocks p m ≡ blocks

  -- what p knows from its own calls
  abbrev pub own_view : ℕ → View Blocks
  own_view p = record { p = p; first = no_blocks; next = accepted store.touch; Law = KindLaw store.touch; Rel = HasBlocks p }

module _ (call : Call) where
  -- other calls leave the heap unchanged
  heap-rest : (p : ℕ) (m : Memory) → alters (heap_touch (deed call)) ≡ false → (ask call p m).0.heap ≡ m.heap
  heap-rest = grind decide

  told-reply : (p : ℕ) (m : Machine) → is_memory_call call ≡ true
      → due (marks p (after_call call p m).scheduler.agenda) ≡ Some (ask call p m.memory).1
  told-reply = grind decide

  call-sound : (q : ℕ) (m : Machine) → IsSound m.memory m.packets.frames
      → IsSound (after_call call q m).memory (after_call call q m).packets.frames
  call-sound q m h =
      each-call IsSound q m h
      (λ slot e. record { size = length-set m.memory.managed.blocks (number_of 3 slot) None ∙ h.size; slots = grind decide })
      call (record { size = (ask-shape call q m.memory).size ∙ h.size; slots = h.slots })

module _ (store : Store) (keeps : Keeps store) (p : ℕ) (few : p ≤ 19) where
  module _ (call : Call) where
    -- another process's call, or one that changes no block
    left-after : (q : ℕ) (m : Machine) → (alters (store.touch (deed call)) && q == p) ≡ false → is_kernel_process p ≡ false
        → IsSound m.memory m.packets.frames
        → store.blocks p (after_call call q m).memory ≡ store.blocks p m.memory
    left-after q m n k sound =
        each-call (λ x frames. store.blocks p x ≡ store.blocks p m.memory) q m refl
        (λ slot e. keeps.framed slot p None m.memory (front_low m.packets.frames slot sound.slots e) k)
        call (grind decide)

    own-after : (m : Machine) (b : Bool) (reply : Option Reply) → alters (store.touch (deed call)) ≡ b → is_kernel_process p ≡ false
        → IsSound m.memory m.packets.frames
        → due (marks p (after_call call p m).scheduler.agenda) ≡ reply
        → store.blocks p (after_call call p m).memory ≡ answered (accepted store.touch) (Some call) reply (store.blocks p m.memory)
    own-after m true reply e k sound d = grind (decide, told-reply)
    own-after m false reply e k sound d = grind (decide, left-after)

  pub own-laws : Laws (own_view store p)
  own-laws =
      record {
        self = λ call m blocks reply k has rest e. (
          grind decide,
          (grind (decide, call-sound, own-after)),
        );
        other = λ call q m blocks n has.
            record { sound = call-sound call q m has.sound; own = λ k. left-after call q m (grind arith) k has.sound ∙ has.own k };
        frame = grind (decide, length-set, list_all-append);
      }

module _ (store : Store) where
  pub boot-has : Keeps store → (p : ℕ) (c : Config) → Starts (own_view store p) c
  boot-has keeps p c = record { sound = grind decide; own = λ k. keeps.boot p c }

  pub are-own : Keeps store → (run : Ran) → AreOwn store.touch run.after.entries
  are-own keeps run before turn reply few has =
      let X = run.after.entries in
      let view = own_view store turn.p in
      subst (λ (blocks : Blocks). KindLaw store.touch blocks turn.call reply)
      (sym (blocks-told store.touch turn.p (up_to_call before turn)))
      (call-law view X before turn reply refl (run-told view (own-laws store keeps turn.p few) run (boot-has keeps turn.p run.config) X []
      (append-nil X)) has)

-- Managed memory: the replies, and that a process's blocks are its own.

module _ (p : ℕ) (m : Machine) (reply : Reply) where
  managed-law : (call : Call) → due (marks p (after_call call p m).scheduler.agenda) ≡ Some reply
      → KindLaw managed_touch (own_blocks p m.memory) call reply
  managed-law (Call.MmemAlloc h n) d = grind decide
  managed-law (Call.MmemFree h) d = grind decide
  managed-law (Call.MmemWrite h at chunk) d = grind (decide, told-reply)
  managed-law (Call.MmemRead h at len) d = grind (decide, told-reply)
  managed-law (Call.MmemCopy source target) d = grind (decide, told-reply)
  managed-law Call.MmemAvail d = grind (decide, told-reply)
  managed-law (Call.PacketSend h) d = grind decide
  managed-law call d = grind arith

all_same : {A : Type 0} (d : A) (n i : ℕ) → get_or (replicate n d) i d ≡ d
all_same d zero i = refl
all_same d (suc n) zero = refl
all_same d (suc n) (suc i) = all_same d n i

pub empty-own : (p : ℕ) (m : Memory) → m.managed.blocks ≡ replicate 272 None → own_blocks p m ≡ no_blocks
empty-own p m e = same_blocks _ _ (λ h. grind (decide, all_same {A = Option (List ℕ)} None 272 (number_of p h)))

pub managed-keeps : Keeps managed_store
managed-keeps = record {
  law = λ call p m reply. managed-law p m reply call;
  asked = grind decide;
  change = λ call q m e. (managed-change call q m e).blocks;
  rest = λ call q p m e. ap (λ managed. own_blocks p (with_managed managed m)) (ask-rest call q m e);
  framed = λ slot p bytes m low k. same_blocks _ _ (λ h. put_other 3 slot p h bytes m (grind decide) k low);
  boot = λ p c. empty-own p (booted c).memory refl;
}

module _ (result : Option HeapStore) where
  -- Heap memory: the same.

  -- whether or not there is room
  alloc-law : (b n p : ℕ) (m : Memory)
      → KindLaw heap_touch (own_heap p m) (Call.HeapAlloc b n)
      (unless_refused (alloc_refusal b n (heap_block_of p b m.heap)) m.heap (done_or_no_room result m.heap)).1
  alloc-law = grind decide

  realloc-law : (b n p : ℕ) (m : Memory)
      → KindLaw heap_touch (own_heap p m) (Call.HeapRealloc b n)
      (unless_refused (realloc_refusal b n (heap_block_of p b m.heap)) m.heap (done_or_no_room result m.heap)).1
  realloc-law = grind decide

module _ (p : ℕ) (m : Machine) (reply : Reply) where
  heap-law : (call : Call) → due (marks p (after_call call p m).scheduler.agenda) ≡ Some reply
      → KindLaw heap_touch (own_heap p m.memory) call reply
  heap-law (Call.HeapAlloc b n) d = grind (decide, alloc-law)
  heap-law (Call.HeapRealloc b n) d = grind (decide, realloc-law)
  heap-law (Call.HeapFree b) d = grind (decide, told-reply)
  heap-law (Call.HeapWrite b at chunk) d = grind (decide, told-reply)
  heap-law (Call.HeapRead b at len) d = grind (decide, told-reply)
  heap-law call d = grind arith

pub heap-keeps : Keeps heap_store
heap-keeps = record {
  law = λ call p m reply. heap-law p m reply call;
  asked = grind decide;
  change = heap-change;
  rest = λ call q p m e. ap (λ heap. own_heap p (with_heap heap m)) (heap-rest call q m e);
  framed = λ slot p bytes m low k. refl;
  boot = λ p c. same_blocks _ _ (λ b. grind decide);
}
