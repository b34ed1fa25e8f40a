-- What each call does, if it is accepted, as far as the laws mention it: a row for every call.
use Rattle.std.specs.Prelude.{ℕ}
use Rattle.mote_types.specs.Kinds.{ProcessNumber, Handle, Offset, Bytes, TimerNumber, Ticks}
use Rattle.mote_types.specs.declared.call.Call.{Call}
use Rattle.mote_types.specs.declared.event.Event.{Event}

-- what a call does with blocks of the caller's, in one kind of memory
pub data Touch : Type 0 where
  Makes : (name : Handle) (length : ℕ) → Touch
  Resizes : (name : Handle) (length : ℕ) → Touch
  Frees : (name : Handle) → Touch
  Writes : (name : Handle) (at : Offset) (bytes : Bytes) → Touch
  Copies : (source target : Handle) → Touch
  Reads : (name : Handle) (at : Offset) (len : ℕ) → Touch
  Sends : (name : Handle) → Touch
  -- the reply is how much is free for the caller
  TellsFree : Touch
  -- nothing of this
  Spares : Touch

pub data Deed : Type 0 where
  InManaged : Touch → Deed
  InHeap : Touch → Deed
  -- an event timer of the caller's is set, begins its interval again now, or where that ended, or is stopped
  Sets : (timer : TimerNumber) (interval : Ticks) → Deed
  Restarts : (timer : TimerNumber) → Deed
  Resets : (timer : TimerNumber) → Deed
  Stops : (timer : TimerNumber) → Deed
  -- an event is posted for a process, or for all
  Posts : (p : ProcessNumber) → Event → Deed
  PostsToAll : Event → Deed
  -- the caller ends
  Exits : Deed
  -- nothing of these
  Other : Deed

abbrev pub deed : Call → Deed
deed (Call.Post p code payload) = Deed.Posts p (record { code = code; payload = payload })
deed (Call.Broadcast code payload) = Deed.PostsToAll (record { code = code; payload = payload })
deed (Call.PostSynch p code payload) = Deed.Other
deed (Call.Poll p) = Deed.Other
deed (Call.Start p) = Deed.Other
deed (Call.Kill p) = Deed.Other
deed (Call.IsRunning p) = Deed.Other
deed Call.AllocEvent = Deed.Other
deed (Call.TimerSet t interval) = Deed.Sets t interval
deed (Call.TimerStop t) = Deed.Stops t
deed (Call.TimerReset t) = Deed.Resets t
deed (Call.TimerRestart t) = Deed.Restarts t
deed (Call.TimerExpired t) = Deed.Other
deed (Call.CallbackSet c interval) = Deed.Other
deed (Call.CallbackStop c) = Deed.Other
deed Call.Clock = Deed.Other
deed (Call.Print chunk) = Deed.Other
deed Call.Wait = Deed.Other
deed Call.Exit = Deed.Exits
deed (Call.MmemAlloc h n) = Deed.InManaged (Touch.Makes h n)
deed (Call.MmemFree h) = Deed.InManaged (Touch.Frees h)
deed (Call.MmemWrite h at chunk) = Deed.InManaged (Touch.Writes h at chunk.items)
deed (Call.MmemRead h at len) = Deed.InManaged (Touch.Reads h at len)
deed (Call.MmemCopy source target) = Deed.InManaged (Touch.Copies source target)
deed Call.MmemAvail = Deed.InManaged Touch.TellsFree
deed (Call.HeapAlloc b n) = Deed.InHeap (Touch.Makes b n)
deed (Call.HeapRealloc b n) = Deed.InHeap (Touch.Resizes b n)
deed (Call.HeapFree b) = Deed.InHeap (Touch.Frees b)
deed (Call.HeapWrite b at chunk) = Deed.InHeap (Touch.Writes b at chunk.items)
deed (Call.HeapRead b at len) = Deed.InHeap (Touch.Reads b at len)
deed Call.HeapStats = Deed.Other
deed (Call.MembAlloc k) = Deed.Other
deed (Call.MembFree k b) = Deed.Other
deed (Call.MembWrite k b at chunk) = Deed.Other
deed (Call.MembRead k b at len) = Deed.Other
deed (Call.MembNumFree k) = Deed.Other
deed (Call.ListAdd l b) = Deed.Other
deed (Call.ListPush l b) = Deed.Other
deed (Call.ListInsert l prev b) = Deed.Other
deed (Call.ListPop l) = Deed.Other
deed (Call.ListChop l) = Deed.Other
deed (Call.ListRemove l b) = Deed.Other
deed (Call.ListHead l) = Deed.Other
deed (Call.ListNext l b) = Deed.Other
deed (Call.ListLength l) = Deed.Other
deed Call.PacketOpen = Deed.Other
deed (Call.PacketRead at len) = Deed.Other
deed Call.PacketDone = Deed.Other
deed Call.PacketCount = Deed.Other
deed (Call.PacketSend h) = Deed.InManaged (Touch.Sends h)

-- what a call does to managed blocks
abbrev pub managed_touch : Deed → Touch
managed_touch (Deed.InManaged touch) = touch
managed_touch _ = Touch.Spares

-- and to heap blocks
abbrev pub heap_touch : Deed → Touch
heap_touch (Deed.InHeap touch) = touch
heap_touch _ = Touch.Spares
