-- Blocks that are apart, and what a refused call leaves.
use Rattle.mote_types.specs.Bytes.{range_of}
use Rattle.node_memory.specs.Code.Conditions.{IfRefused}
use Rattle.node_memory.specs.Memory.{Memory}
use Rattle.node_memory.specs.Code.Placed.{PlacedMemory}
use Rattle.node_memory.specs.Code.Separation.{BlockName, IsBlockName, block_named, changed_block, extent_named, header_of, IsReadFrom, BlocksLieApart, LeavesAll, LeavesOthers, StaysInPlace}
use Rattle.std.proofs.Common.{◌≡◌, ◌≢◌, ℕ, ◌+◌, ◌≤◌, ◌<◌, inl, inr, List, [], ◌∷◌, length, map, refl, arith, Some, None, replicate}
use Rattle.mote_types.specs.declared.call.Call.{Call}
use Rattle.mote_types.specs.declared.refusal.Refusal.{Refusal}
use Rattle.mote_types.specs.declared.reply.Reply.{Reply}

-- a live block's bytes are in the arena, and two blocks share none
module _ (m : PlacedMemory) (lie : BlocksLieApart m) where
  abbrev begin : {name : BlockName} {bytes : List ℕ} → IsReadFrom name bytes m.layout → ℕ
  begin {name} from = from.extent.at + header_of name m.layout

  stands : (name : BlockName) (bytes : List ℕ) → IsBlockName name → block_named name m.contents ≡ Some bytes
      → (from : IsReadFrom name bytes m.layout) × (bytes ≡ range_of (begin from) (length bytes) m.layout.bytes)
      × (begin from + length bytes ≤ length m.layout.bytes)
  stands name bytes named live =
      let from = lie.read name bytes named live in
      (from, from.read, grind arith)

  share_none : (one other : BlockName) (bytes bytes' : List ℕ) (first : IsReadFrom one bytes m.layout)
      (second : IsReadFrom other bytes' m.layout)
      → IsBlockName one → IsBlockName other → one ≢ other → (i : ℕ)
      → begin first ≤ i → i < begin first + length bytes → begin second ≤ i → i < begin second + length bytes' → ⊥
  share_none one other bytes bytes' first second named named' ne i from to from' to' =
      elim (lie.apart one other first.extent second.extent named named' ne first.takes second.takes) [
        | inl before ↦ grind arith
        | inr behind ↦ grind arith
      ]

-- a refused call moves no block
none_moves : (call : Call) (reply : Reply) (old new : PlacedMemory) → LeavesAll call reply old new → (name : BlockName)
    → (extent_named name new.layout ≡ extent_named name old.layout) × (block_named name new.contents ≡ block_named name old.contents)
none_moves call reply old new leaves name = grind arith

-- a refusal for another reason than room changes nothing at all
same_where_in_use : (b n : ℕ) (old new : PlacedMemory) → LeavesAll (Call.HeapAlloc b n) (Reply.Refused Refusal.InUse) old new → new ≡ old
same_where_in_use b n old new leaves = leaves.rest refl

same_where_not_live : (b n : ℕ) (old new : PlacedMemory)
    → LeavesAll (Call.HeapRealloc b n) (Reply.Refused Refusal.NotLive) old new → new ≡ old
same_where_not_live b n old new leaves = leaves.rest refl

same_where_managed_lacks_room : (h n : ℕ) (old new : PlacedMemory)
    → LeavesAll (Call.MmemAlloc h n) (Reply.Refused Refusal.NoRoom) old new → new ≡ old
same_where_managed_lacks_room h n old new leaves = leaves.rest refl

-- a read changes no block, and a call on one kind changes no block of another
reads_change_none : (m : Memory)
    → map (λ call. changed_block call 4 m) (Call.MmemRead 0 0 1 ∷ Call.HeapRead 0 0 1 ∷ Call.MembRead 0 0 0 1 ∷ Call.HeapStats ∷ [])
    ≡ replicate 4 None
reads_change_none m = refl

last_names_stay : (old new : Memory) → LeavesOthers (Some (BlockName.Managed 4 0)) old new
    → (block_named (BlockName.Managed 19 15) new ≡ block_named (BlockName.Managed 19 15) old)
    × (block_named (BlockName.Heap 19 15) new ≡ block_named (BlockName.Heap 19 15) old)
    × (block_named (BlockName.Pooled 3 15) new ≡ block_named (BlockName.Pooled 3 15) old)
last_names_stay old new leaves = (
  leaves (BlockName.Managed 19 15) (omega arith, omega arith, omega arith) (λ e. absurd (cc)),
  leaves (BlockName.Heap 19 15) (omega arith, omega arith, omega arith) (λ e. absurd (cc)),
  leaves (BlockName.Pooled 3 15) tt (λ e. absurd (cc)),
)

-- a fact on refused calls holds if the reply is a refusal
holds_where_refused : (fact : Type 0) (refusal : Refusal) → IfRefused (Reply.Refused refusal) fact → fact
holds_where_refused fact refusal held = held

moves_none_where_no_room : (h n : ℕ) (old new : PlacedMemory)
    → IfRefused (Reply.Refused Refusal.NoRoom) (LeavesAll (Call.MmemAlloc h n) (Reply.Refused Refusal.NoRoom) old new)
    → StaysInPlace old new
moves_none_where_no_room h n old new leaves = leaves.blocks

nothing_said_where_done : IfRefused Reply.Done ⊥
nothing_said_where_done = tt
