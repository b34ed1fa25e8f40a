-- The calls, by what they are on.
use Rattle.mote_types.specs.declared.call.Call.{Call}
use Rattle.kernel_core.specs.declared.call_kind.CallKind.{CallKind}

abbrev pub kind_of : Call → CallKind
kind_of Call.Wait = CallKind.Wait
kind_of Call.Exit = CallKind.Processes
kind_of (Call.Poll q) = CallKind.Processes
kind_of (Call.Start q) = CallKind.Processes
kind_of (Call.Kill q) = CallKind.Processes
kind_of (Call.IsRunning q) = CallKind.Processes
kind_of (Call.Post q code payload) = CallKind.Events
kind_of (Call.Broadcast code payload) = CallKind.Events
kind_of (Call.PostSynch q code payload) = CallKind.Events
kind_of Call.AllocEvent = CallKind.Events
kind_of (Call.TimerSet t interval) = CallKind.Timers
kind_of (Call.TimerStop t) = CallKind.Timers
kind_of (Call.TimerReset t) = CallKind.Timers
kind_of (Call.TimerRestart t) = CallKind.Timers
kind_of (Call.TimerExpired t) = CallKind.Timers
kind_of (Call.CallbackSet c interval) = CallKind.Timers
kind_of (Call.CallbackStop c) = CallKind.Timers
kind_of Call.Clock = CallKind.Timers
kind_of (Call.Print chunk) = CallKind.Devices
kind_of Call.PacketOpen = CallKind.Devices
kind_of (Call.PacketRead at len) = CallKind.Devices
kind_of Call.PacketDone = CallKind.Devices
kind_of Call.PacketCount = CallKind.Devices
kind_of (Call.PacketSend h) = CallKind.Devices
kind_of (Call.MmemAlloc h n) = CallKind.Managed
kind_of (Call.MmemFree h) = CallKind.Managed
kind_of (Call.MmemWrite h at chunk) = CallKind.Managed
kind_of (Call.MmemRead h at len) = CallKind.Managed
kind_of (Call.MmemCopy source target) = CallKind.Managed
kind_of Call.MmemAvail = CallKind.Managed
kind_of (Call.HeapAlloc b n) = CallKind.Heap
kind_of (Call.HeapRealloc b n) = CallKind.Heap
kind_of (Call.HeapFree b) = CallKind.Heap
kind_of (Call.HeapWrite b at chunk) = CallKind.Heap
kind_of (Call.HeapRead b at len) = CallKind.Heap
kind_of Call.HeapStats = CallKind.Heap
kind_of (Call.MembAlloc k) = CallKind.Pools
kind_of (Call.MembFree k b) = CallKind.Pools
kind_of (Call.MembWrite k b at chunk) = CallKind.Pools
kind_of (Call.MembRead k b at len) = CallKind.Pools
kind_of (Call.MembNumFree k) = CallKind.Pools
kind_of (Call.ListAdd l b) = CallKind.Pools
kind_of (Call.ListPush l b) = CallKind.Pools
kind_of (Call.ListInsert l prev b) = CallKind.Pools
kind_of (Call.ListPop l) = CallKind.Pools
kind_of (Call.ListChop l) = CallKind.Pools
kind_of (Call.ListRemove l b) = CallKind.Pools
kind_of (Call.ListHead l) = CallKind.Pools
kind_of (Call.ListNext l b) = CallKind.Pools
kind_of (Call.ListLength l) = CallKind.Pools
