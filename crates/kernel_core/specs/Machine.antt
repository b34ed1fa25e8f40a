-- The state of the mote: its clock, its work, its scheduler, its timers, its memory and its devices.
use Rattle.std.specs.Prelude.{ℕ, ◌-◌, Bool, false, ◌&&◌, [], ◌∷◌, length, nat_le}
use Rattle.mote_types.specs.Kinds.{ProcessNumber, Ticks}
use Rattle.mote_types.specs.Limits.{most_applications, queue_places}
use Rattle.device_core.specs.PacketQueue.{PacketQueue, no_packets}
use Rattle.device_core.specs.SerialLine.{SerialLine, quiet_line}
use Rattle.mote_types.specs.declared.entry.Entry.{Entry}
use Rattle.mote_types.specs.declared.reply.Reply.{Reply}
use Rattle.mote_types.specs.declared.refusal.Refusal.{Refusal}
use Rattle.kernel_core.specs.declared.config.Config.{Config}
use Rattle.node_memory.specs.Memory.{Memory, fresh_memory}
use Rattle.node_memory.specs.Sizes.{are_sizes}
use Rattle.node_memory.specs.declared.sizes.Sizes.{Sizes}
use Rattle.process_core.specs.Agenda.{Queued, Item}
use Rattle.process_core.specs.Scheduler.{Scheduler, at_boot, in_front, marked, posted}
use Rattle.process_core.specs.Requests.{answered}
use Rattle.timer_core.specs.Timers.{Timers, no_timers}

-- An expiry in the queue carries whether it was cancelled.
pub record Machine : Type 0 where
  pub clock : Ticks
  -- the turns and rounds since boot or the last input
  pub work : ℕ
  pub is_halted : Bool
  pub scheduler : Scheduler Bool
  pub timers : Timers
  pub memory : Memory
  pub serial : SerialLine
  -- a line was broadcast, and the serial line's process waits for its CONTINUE
  pub is_serial_waiting : Bool
  pub packets : PacketQueue

abbrev pub sizes_of : Config → Sizes
sizes_of c = record { mmem = c.mmem; heap = c.heap; header = c.header; quota = c.quota }

abbrev pub is_bootable : Config → Bool
is_bootable c = are_sizes (sizes_of c) c.apps && nat_le c.apps most_applications

abbrev pub booted : Config → Machine
booted c =
    record {
      clock = 0;
      work = 0;
      is_halted = false;
      scheduler = at_boot c.apps;
      timers = no_timers;
      memory = fresh_memory (sizes_of c);
      serial = quiet_line;
      is_serial_waiting = false;
      packets = no_packets;
    }

abbrev pub with_timers : Timers → Machine → Machine
with_timers timers m = record m { timers = timers }

abbrev pub with_memory : Memory → Machine → Machine
with_memory memory m = record m { memory = memory }

abbrev pub with_serial : SerialLine → Machine → Machine
with_serial serial m = record m { serial = serial }

abbrev pub with_packets : PacketQueue → Machine → Machine
with_packets packets m = record m { packets = packets }

abbrev pub scheduled : (Scheduler Bool → Scheduler Bool) → Machine → Machine
scheduled change m = record m { scheduler = change m.scheduler }

abbrev pub with_event : Queued Bool → Machine → Machine
with_event event = scheduled (posted event)

abbrev pub free_places : Machine → ℕ
free_places m = queue_places - length m.scheduler.events

-- process p will be polled
abbrev pub mark : ProcessNumber → Machine → Machine
mark p = scheduled (marked p)

abbrev pub answer : ProcessNumber → Reply → Machine → Machine
answer p reply = scheduled (answered p reply)

abbrev pub refuse : ProcessNumber → Refusal → Machine → Machine
refuse p refusal = answer p (Reply.Refused refusal)

-- the entry is made before any other pending work
abbrev pub shown_first : Entry → Machine → Machine
shown_first entry = scheduled (in_front (Item.Show entry ∷ []))
