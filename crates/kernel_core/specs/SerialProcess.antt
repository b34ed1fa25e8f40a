-- Process 2 (serial line), which broadcasts the lines that arrived.
use Rattle.std.specs.Prelude.{suc, true, false, Option, Some, None, if◌then◌else◌, ◌==◌, filter, length}
use Rattle.mote_types.specs.Kinds.{Bytes}
use Rattle.mote_types.specs.Limits.{serial_line_process}
use Rattle.mote_types.specs.declared.event.Event.{Event}
use Rattle.mote_types.specs.declared.event.Payload.{Payload}
use Rattle.mote_types.specs.EventNumbers.{POLL, CONTINUE, SERIAL_LINE}
use Rattle.mote_types.specs.Codes.{plain_event}
use Rattle.device_core.specs.SerialLine.{is_line_end, line_of, next_line, after_line}
use Rattle.process_core.specs.Agenda.{Queued}
use Rattle.process_core.specs.Scheduler.{has_room}
use Rattle.kernel_core.specs.Machine.{Machine, with_serial, with_event}
use Rattle.kernel_core.specs.Repeating.{times}

-- the line is broadcast. It is lost if the queue is full
abbrev pub broadcast_line : Bytes → Machine → Machine
broadcast_line line m =
    let event : Event = record { code = SERIAL_LINE; payload = Payload.Line (line_of line) } in
    if has_room m.scheduler then with_event (Queued.ToAll event) m else m

-- CONTINUE is posted to process 2, which waits for it. If the queue is full, it does not wait
abbrev pub post_continue : Machine → Machine
post_continue m =
    if has_room m.scheduler
    then with_event (Queued.To serial_line_process (plain_event CONTINUE)) (record m { is_serial_waiting = true })
    else m

-- the line is broadcast, and the process continues after all events that are in the queue now
abbrev pub line_served : Option Bytes → Machine → Machine
line_served None m = m
line_served (Some line) m = post_continue (broadcast_line line m)

-- The next whole line leaves the ring and is broadcast. Without one, the bytes in the ring go into the line that began.
-- While process 2 waits, the ring doesn't change
abbrev pub serve_line : Machine → Machine
serve_line m = if m.is_serial_waiting then m else line_served (next_line m.serial) (with_serial (after_line m.serial) m)

-- the ring is emptied: line by line, and then the bytes after the last line
abbrev pub empty_ring : Machine → Machine
empty_ring m = times (suc (length (filter is_line_end m.serial.ring))) serve_line m

abbrev pub serial_line_polled : Machine → Machine
serial_line_polled m = if m.is_serial_waiting then m else empty_ring m

-- the wait ends, whoever posted CONTINUE
abbrev pub serial_line_continued : Machine → Machine
serial_line_continued m = empty_ring (record m { is_serial_waiting = false })

abbrev pub serial_line : Event → Machine → Machine
serial_line event m =
    if event.code == POLL then serial_line_polled m
    else if event.code == CONTINUE then serial_line_continued m
    else m
