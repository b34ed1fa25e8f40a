-- Where the live blocks are in the arena, and that a call on one block leaves every other block as it was.
use Rattle.std.specs.Prelude.{◌≡◌, ◌≢◌, ℕ, ◌+◌, ◌≤◌, ◌&&◌, Bool, true, false, List, length, slice_get, Option, Some, None}
use Rattle.std.specs.Option.{option_map}
use Rattle.mote_types.specs.declared.call.Call.{Call}
use Rattle.mote_types.specs.declared.refusal.Refusal.{Refusal}
use Rattle.mote_types.specs.declared.reply.Reply.{Reply}
use Rattle.mote_types.specs.Code.Conditions.{IsName}
use Rattle.mmem_core.specs.ManagedStore as managed
use Rattle.heap_core.specs.HeapStore as heap
use Rattle.memb_core.specs.BlockPool as pools
use Rattle.memb_core.specs.BlockPool.{first_unused}
use Rattle.mote_types.specs.Bytes.{range_of}
use Rattle.arena_core.specs.Code.Extents.{Extent, AreApart}
use Rattle.mmem_core.specs.Code.Separation as managed_places
use Rattle.mmem_core.specs.Code.Separation.{place_of}
use Rattle.heap_core.specs.Code.HeapBytes.{heap_of}
use Rattle.heap_core.specs.Code.Separation as heap_places
use Rattle.heap_core.specs.Code.Separation.{live_block}
use Rattle.memb_core.specs.Code.PoolBytes.{pool_of}
use Rattle.memb_core.specs.Code.Separation as places_in_pool
use Rattle.node_memory.specs.declared.listed_pool.ListedPool.{ListedPool}
use Rattle.mote_types.specs.Limits.{packet_process}
use Rattle.node_memory.specs.Memory.{Memory, pool_in}
use Rattle.node_memory.specs.declared.parts.Part.{Part}
use Rattle.node_memory.specs.Code.Parts.{part_called}
use Rattle.node_memory.specs.Code.Placed.{Layout, PlacedMemory}

-- the name of a block of memory
pub data BlockName : Type 0 where
  -- that process's handle
  Managed : ℕ → ℕ → BlockName
  -- that process's block in the heap
  Heap : ℕ → ℕ → BlockName
  -- that pool's block
  Pooled : ℕ → ℕ → BlockName

-- the block of the frame in that slot
abbrev pub frame_block : ℕ → BlockName
frame_block slot = BlockName.Managed packet_process slot

-- processes 3 to 19 have handles 0 to 15, and the same number of blocks in the heap
abbrev pub IsBlockName : BlockName → Type 0
IsBlockName (BlockName.Managed p h) = IsName p h
IsBlockName (BlockName.Heap p b) = IsName p b
IsBlockName (BlockName.Pooled k b) = Unit {0}

-- the bytes of a block, if it is live
abbrev pub block_named : BlockName → Memory → Option (List ℕ)
block_named (BlockName.Managed p h) m = managed.block_of p h m.managed
block_named (BlockName.Heap p b) m = heap.block_of p b m.heap
block_named (BlockName.Pooled k b) m = pools.block_of b (pool_in k m).pool

-- the block that p's call allocates, frees or writes to
abbrev pub changed_block : Call → ℕ → Memory → Option BlockName
changed_block (Call.MmemAlloc h n) p m = Some (BlockName.Managed p h)
changed_block (Call.MmemFree h) p m = Some (BlockName.Managed p h)
changed_block (Call.MmemWrite h at chunk) p m = Some (BlockName.Managed p h)
changed_block (Call.MmemCopy source target) p m = Some (BlockName.Managed p target)
changed_block (Call.HeapAlloc b n) p m = Some (BlockName.Heap p b)
changed_block (Call.HeapRealloc b n) p m = Some (BlockName.Heap p b)
changed_block (Call.HeapFree b) p m = Some (BlockName.Heap p b)
changed_block (Call.HeapWrite b at chunk) p m = Some (BlockName.Heap p b)
changed_block (Call.MembAlloc k) p m = option_map (BlockName.Pooled k) (first_unused (pool_in k m).pool)
changed_block (Call.MembFree k b) p m = Some (BlockName.Pooled k b)
changed_block (Call.MembWrite k b at chunk) p m = Some (BlockName.Pooled k b)
-- the others change none
changed_block (Call.MmemRead h at len) p m = None
changed_block Call.MmemAvail p m = None
changed_block (Call.HeapRead b at len) p m = None
changed_block Call.HeapStats p m = None
changed_block (Call.MembRead k b at len) p m = None
changed_block (Call.MembNumFree k) p m = None
changed_block (Call.ListAdd l b) p m = None
changed_block (Call.ListPush l b) p m = None
changed_block (Call.ListInsert l prev b) p m = None
changed_block (Call.ListPop l) p m = None
changed_block (Call.ListChop l) p m = None
changed_block (Call.ListRemove l b) p m = None
changed_block (Call.ListHead l) p m = None
changed_block (Call.ListNext l b) p m = None
changed_block (Call.ListLength l) p m = None
changed_block Call.Wait p m = None
changed_block Call.Exit p m = None
changed_block (Call.Post q code payload) p m = None
changed_block (Call.Broadcast code payload) p m = None
changed_block (Call.PostSynch q code payload) p m = None
changed_block Call.AllocEvent p m = None
changed_block (Call.Poll q) p m = None
changed_block (Call.Start q) p m = None
changed_block (Call.Kill q) p m = None
changed_block (Call.IsRunning q) p m = None
changed_block (Call.TimerSet t interval) p m = None
changed_block (Call.TimerStop t) p m = None
changed_block (Call.TimerReset t) p m = None
changed_block (Call.TimerRestart t) p m = None
changed_block (Call.TimerExpired t) p m = None
changed_block (Call.CallbackSet c interval) p m = None
changed_block (Call.CallbackStop c) p m = None
changed_block Call.Clock p m = None
changed_block (Call.Print chunk) p m = None
changed_block Call.PacketOpen p m = None
changed_block (Call.PacketRead at len) p m = None
changed_block Call.PacketDone p m = None
changed_block Call.PacketCount p m = None
changed_block (Call.PacketSend h) p m = None

-- every block but this one is live if it was, and has the bytes that it had, wherever it is now
abbrev pub LeavesOthers : Option BlockName → Memory → Memory → Type 0
LeavesOthers changed old new =
    (name : BlockName) → IsBlockName name → changed ≢ Some name → block_named name new ≡ block_named name old

-- the part of the arena that a pool's block takes, if it is live
abbrev pub extent_in_pool : ℕ → List ℕ → Option ListedPool → Option Extent
extent_in_pool b bytes None = None
extent_in_pool b bytes (Some listed) =
    option_map (λ _. places_in_pool.extent_of listed.pool b) (pools.block_of b (pool_of listed.pool bytes))

-- the part of the arena that a live block takes, with its header or its link
abbrev pub extent_named : BlockName → Layout → Option Extent
extent_named (BlockName.Managed p h) l = option_map (managed_places.extent_of l.managed) (place_of p h l.managed)
extent_named (BlockName.Heap p b) l = option_map (heap_places.extent_of l.heap) (live_block p b (heap_of l.heap l.bytes))
extent_named (BlockName.Pooled k b) l = extent_in_pool b l.bytes (slice_get l.pools k)

-- what is in that part before the block's bytes: the header of a block of the heap, the link of a pool's block
abbrev pub header_of : BlockName → Layout → ℕ
header_of (BlockName.Managed p h) l = 0
header_of (BlockName.Heap p b) l = l.heap.header
header_of (BlockName.Pooled k b) l = 4

-- the block of that name takes a part of the arena, and these are the bytes after its header there
pub record IsReadFrom (name : BlockName) (bytes : List ℕ) (layout : Layout) : Type 0 where
  pub extent : Extent
  pub takes : extent_named name layout ≡ Some extent
  pub fits : header_of name layout + length bytes ≤ extent.len
  pub read : bytes ≡ range_of (extent.at + header_of name layout) (length bytes) layout.bytes

-- Each live block, whatever its kind, takes a part of the one arena and is read from there; the parts of two different blocks
-- share no byte.
pub record BlocksLieApart (m : PlacedMemory) : Type 0 where
  pub read : (name : BlockName) (bytes : List ℕ) → IsBlockName name → block_named name m.contents ≡ Some bytes
      → IsReadFrom name bytes m.layout
  pub inside : (name : BlockName) (extent : Extent) → IsBlockName name → extent_named name m.layout ≡ Some extent
      → extent.at + extent.len ≤ length m.layout.bytes
  pub apart : (one other : BlockName) (first second : Extent) → IsBlockName one → IsBlockName other → one ≢ other
      → extent_named one m.layout ≡ Some first → extent_named other m.layout ≡ Some second → AreApart first second

-- every block stays as it is and where it is; what the arena holds besides the blocks may differ
pub record StaysInPlace (old new : PlacedMemory) : Type 0 where
  pub contents : new.contents ≡ old.contents
  pub extents : (name : BlockName) → extent_named name new.layout ≡ extent_named name old.layout

abbrev pub is_no_room : Reply → Bool
is_no_room (Reply.Refused Refusal.NoRoom) = true
is_no_room _ = false

abbrev pub is_heap : Option Part → Bool
is_heap (Some Part.Heap) = true
is_heap _ = false

-- a block of the heap could not be allocated or resized, since it fits nowhere
abbrev pub lacks_place : Call → Reply → Bool
lacks_place call reply = is_heap (part_called call) && is_no_room reply

-- A call that is refused with this reply leaves every block as it is and where it is. All other memory is unchanged too, unless
-- the heap lacks room: then chunks that were freed there before may have been joined.
pub record LeavesAll (call : Call) (reply : Reply) (old new : PlacedMemory) : Type 0 where
  pub blocks : StaysInPlace old new
  pub rest : lacks_place call reply ≡ false → new ≡ old
