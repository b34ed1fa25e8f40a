-- The calls of applications: the refusals of each in the order in which they are checked, its effect, and its reply.
use Rattle.std.specs.Prelude.{Bool, not, ◌&&◌, ◌==◌, length, Option, Some, None, if◌then◌else◌, nat_lt}
use Rattle.std.specs.Option.{option_or}
use Rattle.mote_types.specs.Kinds.{ProcessNumber, EventCode, TimerNumber}
use Rattle.mote_types.specs.Limits.{etimer_process, packet_process, timers_each, callback_timers_each}
use Rattle.mote_types.specs.declared.call.Call.{Call}
use Rattle.mote_types.specs.declared.reply.Reply.{Reply}
use Rattle.mote_types.specs.declared.refusal.Refusal.{Refusal}
use Rattle.mote_types.specs.declared.event.Payload.{Payload}
use Rattle.mote_types.specs.declared.event.Event.{Event}
use Rattle.mote_types.specs.Codes.{is_reserved}
use Rattle.device_core.specs.PacketQueue.{front_slot, with_receiver}
use Rattle.node_memory.specs.Memory.{Memory}
use Rattle.node_memory.specs.Answered.{Asked}
use Rattle.node_memory.specs.ManagedCalls as managed
use Rattle.node_memory.specs.HeapCalls as heap
use Rattle.node_memory.specs.PoolCalls as pool
use Rattle.node_memory.specs.MemoryCalls.{on_managed, on_heap, on_pool, on_list}
use Rattle.node_memory.specs.Frames.{send_refusal}
use Rattle.process_core.specs.Agenda.{Queued}
use Rattle.process_core.specs.Processes.{is_alive}
use Rattle.process_core.specs.Scheduler.{state_in}
use Rattle.process_core.specs.Requests.{application_refusal, post_refusal, synch_refusal, poll_refusal, start_refusal, kill_refusal, alloc_event_refusal, number_drawn, given_in_turn, started_by, killed_by, waited, ended}
use Rattle.kernel_core.specs.Machine.{Machine, scheduled, with_timers, with_memory, with_packets, with_event, mark, answer, refuse, shown_first}
use Rattle.kernel_core.specs.Expiries.{expiries_cancelled}
use Rattle.kernel_core.specs.PacketCalls.{open_refusal, front_refusal, front_read_refusal, front_read, front_dropped, sent}
use Rattle.timer_core.specs.Names.{event_timer, callback_timer}
use Rattle.timer_core.specs.Timers.{set_timer, stop_timer, reset_timer, restart_timer, can_reset, is_armed}

abbrev pub refused_or : Option Refusal → ProcessNumber → Machine → Machine → Machine
refused_or None p m after = after
refused_or (Some refusal) p m after = refuse p refusal m

abbrev pub answer_done : ProcessNumber → Machine → Machine
answer_done p = answer p Reply.Done

abbrev pub event_of : EventCode → Payload → Event
event_of code payload = record { code = code; payload = payload }

abbrev pub broadcast_call_refusal : Machine → EventCode → Option Refusal
broadcast_call_refusal m code = if is_reserved code then Some Refusal.Reserved else post_refusal m.scheduler

abbrev pub timer_refusal : TimerNumber → Option Refusal
timer_refusal t = if nat_lt t timers_each then None else Some Refusal.BadName

abbrev pub callback_refusal : TimerNumber → Option Refusal
callback_refusal c = if nat_lt c callback_timers_each then None else Some Refusal.BadName

abbrev pub is_callback_timer : ProcessNumber → TimerNumber → ProcessNumber → TimerNumber → Bool
is_callback_timer p c q d = q == p && d == c

abbrev pub asked_of_memory : ProcessNumber → (Memory → Asked Memory) → Machine → Machine
asked_of_memory p call m = let asked = call m.memory in answer p asked.1 (with_memory asked.0 m)

abbrev pub after_call : Call → ProcessNumber → Machine → Machine
-- the activation ends
after_call Call.Wait p m = scheduled (waited p) m
after_call Call.Exit p m = scheduled (ended p) m
-- events
after_call (Call.Post q code payload) p m =
    refused_or (option_or (application_refusal m.scheduler q) (broadcast_call_refusal m code)) p m
    (answer_done p (with_event (Queued.To q (event_of code payload)) m))
after_call (Call.Broadcast code payload) p m =
    refused_or (broadcast_call_refusal m code) p m (answer_done p (with_event (Queued.ToAll (event_of code payload)) m))
after_call (Call.PostSynch q code payload) p m =
    refused_or (synch_refusal m.scheduler q code) p m (scheduled (given_in_turn p q (event_of code payload)) m)
after_call Call.AllocEvent p m =
    refused_or (alloc_event_refusal m.scheduler) p m
    (answer p (Reply.Num m.scheduler.next_event) (scheduled number_drawn m))
-- processes
after_call (Call.Poll q) p m = refused_or (poll_refusal m.scheduler q) p m (answer_done p (mark q m))
after_call (Call.Start q) p m = refused_or (start_refusal m.scheduler q) p m (scheduled (started_by p q) m)
after_call (Call.Kill q) p m = refused_or (kill_refusal m.scheduler q) p m (scheduled (killed_by p q) m)
after_call (Call.IsRunning q) p m =
    refused_or (application_refusal m.scheduler q) p m (answer p (Reply.Flag (is_alive (state_in m.scheduler q))) m)
-- event timers
after_call (Call.TimerSet t interval) p m =
    refused_or (timer_refusal t) p m
    (answer_done p (mark etimer_process (with_timers (set_timer m.clock (event_timer p t) interval m.timers) m)))
after_call (Call.TimerStop t) p m = refused_or (timer_refusal t) p m (answer_done p (with_timers (stop_timer (event_timer p t) m.timers) m))
after_call (Call.TimerReset t) p m =
    refused_or (option_or (timer_refusal t) (if can_reset (event_timer p t) m.timers then None else Some Refusal.Range)) p m
    (answer_done p (mark etimer_process (with_timers (reset_timer (event_timer p t) m.timers) m)))
after_call (Call.TimerRestart t) p m =
    refused_or (timer_refusal t) p m
    (answer_done p (mark etimer_process (with_timers (restart_timer m.clock (event_timer p t) m.timers) m)))
after_call (Call.TimerExpired t) p m =
    refused_or (timer_refusal t) p m (answer p (Reply.Flag (not (is_armed (event_timer p t) m.timers))) m)
-- callback timers
after_call (Call.CallbackSet c interval) p m =
    refused_or (callback_refusal c) p m
    (answer_done p
    (mark etimer_process
    (expiries_cancelled (is_callback_timer p c) (with_timers (set_timer m.clock (callback_timer p c) interval m.timers) m))))
after_call (Call.CallbackStop c) p m =
    refused_or (callback_refusal c) p m
    (answer_done p (expiries_cancelled (is_callback_timer p c) (with_timers (stop_timer (callback_timer p c) m.timers) m)))
-- the clock, and output
after_call Call.Clock p m = answer p (Reply.Wide m.clock) m
after_call (Call.Print chunk) p m = answer_done p m
-- packets
after_call Call.PacketOpen p m = refused_or (open_refusal p m) p m
    (answer_done p (mark packet_process (with_packets (with_receiver p m.packets) m)))
after_call (Call.PacketRead at len) p m = refused_or (front_read_refusal p at len m) p m (answer p (front_read at len m) m)
after_call Call.PacketDone p m = refused_or (front_refusal p m) p m (answer_done p (front_dropped (front_slot m.packets) m))
after_call Call.PacketCount p m = answer p (Reply.Num (length m.packets.frames)) m
-- the note is before the reply
after_call (Call.PacketSend h) p m = refused_or (send_refusal p h m.memory.managed) p m (shown_first (sent p h m) (answer_done p m))
-- memory
after_call (Call.MmemAlloc h n) p m = asked_of_memory p (on_managed (managed.alloc p h n)) m
after_call (Call.MmemFree h) p m = asked_of_memory p (on_managed (managed.free p h)) m
after_call (Call.MmemWrite h at chunk) p m = asked_of_memory p (on_managed (managed.write p h at chunk.items)) m
after_call (Call.MmemRead h at len) p m = asked_of_memory p (on_managed (managed.read p h at len)) m
after_call (Call.MmemCopy source target) p m = asked_of_memory p (on_managed (managed.copy p source target)) m
after_call Call.MmemAvail p m = asked_of_memory p (on_managed (managed.avail p)) m
after_call (Call.HeapAlloc b n) p m = asked_of_memory p (on_heap (heap.alloc p b n)) m
after_call (Call.HeapRealloc b n) p m = asked_of_memory p (on_heap (heap.realloc p b n)) m
after_call (Call.HeapFree b) p m = asked_of_memory p (on_heap (heap.free p b)) m
after_call (Call.HeapWrite b at chunk) p m = asked_of_memory p (on_heap (heap.write p b at chunk.items)) m
after_call (Call.HeapRead b at len) p m = asked_of_memory p (on_heap (heap.read p b at len)) m
after_call Call.HeapStats p m = asked_of_memory p (on_heap heap.stats) m
after_call (Call.MembAlloc k) p m = asked_of_memory p (on_pool k pool.alloc) m
after_call (Call.MembFree k b) p m = asked_of_memory p (on_pool k (pool.free b)) m
after_call (Call.MembWrite k b at chunk) p m = asked_of_memory p (on_pool k (pool.write b at chunk.items)) m
after_call (Call.MembRead k b at len) p m = asked_of_memory p (on_pool k (pool.read b at len)) m
after_call (Call.MembNumFree k) p m = asked_of_memory p (on_pool k pool.num_free) m
after_call (Call.ListAdd l b) p m = asked_of_memory p (on_list l (pool.add b)) m
after_call (Call.ListPush l b) p m = asked_of_memory p (on_list l (pool.push b)) m
after_call (Call.ListInsert l prev b) p m = asked_of_memory p (on_list l (pool.insert prev b)) m
after_call (Call.ListPop l) p m = asked_of_memory p (on_list l pool.pop) m
after_call (Call.ListChop l) p m = asked_of_memory p (on_list l pool.chop) m
after_call (Call.ListRemove l b) p m = asked_of_memory p (on_list l (pool.remove b)) m
after_call (Call.ListHead l) p m = asked_of_memory p (on_list l pool.head) m
after_call (Call.ListNext l b) p m = asked_of_memory p (on_list l (pool.next b)) m
after_call (Call.ListLength l) p m = asked_of_memory p (on_list l pool.count) m
