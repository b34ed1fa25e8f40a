-- What the application says that averages measurements.
use Rattle.std.specs.Prelude.{ℕ, ◌+◌, ◌/◌, ◌++◌, List, [], ◌∷◌, drop, replicate, sum, min, Option, Some, None, bytes_eq, codes, decimal, length, nat_le, nat_lt, ◌==◌, if◌then◌else◌}
use Rattle.mote_types.specs.Applications.{Says}
use Rattle.mote_types.specs.Code.StateMachines.{fold_says}
use Rattle.mote_types.specs.declared.call.Call.{Call}
use Rattle.mote_types.specs.declared.event.Event.{Event}
use Rattle.mote_types.specs.declared.event.Payload.{Payload}
use Rattle.mote_types.specs.declared.event.Stimulus.{Stimulus}
use Rattle.mote_types.specs.declared.reply.Reply.{Reply}
use Rattle.mote_types.specs.EventNumbers.{INIT, PACKET, SERIAL_LINE}
use Rattle.mote_text.specs.Script.{argument_of, read_number}
use Rattle.template_app.specs.declared.averager.Averager.{Averager}
use Rattle.template_app.specs.declared.averager.Stage.{Stage}

-- nothing was measured
abbrev pub fresh : Averager
fresh = record { table = replicate 8 0; count = 0; limit = 255; stage = Stage.Idle }

-- the average of the last eight, or of all if there were fewer
abbrev pub average_of : Averager → ℕ
average_of averager = if averager.count == 0 then 0 else sum averager.table / min averager.count 8

-- the count after one more
abbrev pub counted : ℕ → ℕ
counted count = if nat_lt count 4294967295 then count + 1 else count

-- one more measurement, where the byte is within the limit
abbrev pub measured : ℕ → Averager → Averager
measured byte averager =
    if nat_le byte averager.limit
    then record averager { table = drop 1 averager.table ++ byte ∷ []; count = counted averager.count }
    else averager

-- a number and a line end, and the print of them
abbrev pub number_text : ℕ → List ℕ
number_text n = decimal n ++ 10 ∷ []

abbrev pub number_print : ℕ → Call
number_print n = Call.Print (record { items = number_text n })

-- the average as it is sent in a frame
abbrev pub average_text : Averager → List ℕ
average_text averager = number_text (average_of averager)

-- the command `limit` with this number, if it is one
abbrev pub limit_answer : Option ℕ → Call
limit_answer (Some limit) = number_print limit
limit_answer None = Call.Print (record { items = codes "no number\n" })

abbrev pub limit_next : Averager → Option ℕ → Averager
limit_next averager (Some limit) = record averager { limit = limit }
limit_next averager None = averager

-- what follows `limit `, if the line begins so
abbrev pub argument_answer : Option (List ℕ) → Call
argument_answer (Some text) = limit_answer (read_number text)
argument_answer None = Call.Wait

abbrev pub argument_next : Averager → Option (List ℕ) → Averager
argument_next averager (Some text) = limit_next averager (read_number text)
argument_next averager None = averager

-- a line from the serial line is a command
abbrev pub command_answer : Averager → List ℕ → Call
command_answer averager line =
    if bytes_eq line (codes "show") then number_print (average_of averager)
    else if bytes_eq line (codes "count") then number_print averager.count
    else if bytes_eq line (codes "clear") then Call.Print (record { items = codes "cleared\n" })
    else if bytes_eq line (codes "send") then Call.MmemAlloc 0 (length (average_text averager))
    else argument_answer (argument_of (codes "limit ") line)

abbrev pub command_next : Averager → List ℕ → Averager
command_next averager line =
    if bytes_eq line (codes "show") then averager
    else if bytes_eq line (codes "count") then averager
    else if bytes_eq line (codes "clear") then fresh
    else if bytes_eq line (codes "send") then record averager { stage = Stage.Allocating }
    else argument_next averager (argument_of (codes "limit ") line)

abbrev pub payload_answer : Averager → Payload → Call
payload_answer averager (Payload.Line line) = command_answer averager line.items
payload_answer averager _ = Call.Wait

abbrev pub payload_next : Averager → Payload → Averager
payload_next averager (Payload.Line line) = command_next averager line.items
payload_next averager _ = averager

-- At its start it becomes the receiver of frames. Of each frame it reads the first byte
abbrev pub event_answer : Averager → Event → Call
event_answer averager event =
    if event.code == INIT then Call.PacketOpen
    else if event.code == PACKET then Call.PacketRead 0 1
    else if event.code == SERIAL_LINE then payload_answer averager event.payload
    else Call.Wait

abbrev pub event_next : Averager → Event → Averager
event_next averager event =
    if event.code == INIT then fresh
    else if event.code == PACKET then record averager { stage = Stage.Reading }
    else if event.code == SERIAL_LINE then payload_next averager event.payload
    else averager

-- The average must be sent: a block is allocated, written, sent and freed. At a refusal nothing is sent, and the block,
-- if there is one, is freed
abbrev pub allocated_answer : Averager → Reply → Call
allocated_answer averager Reply.Done = Call.MmemWrite 0 0 (record { items = average_text averager })
allocated_answer averager _ = Call.Wait

abbrev pub allocated_next : Averager → Reply → Averager
allocated_next averager Reply.Done = record averager { stage = Stage.Writing }
allocated_next averager _ = record averager { stage = Stage.Idle }

abbrev pub written_answer : Reply → Call
written_answer Reply.Done = Call.PacketSend 0
written_answer _ = Call.MmemFree 0

abbrev pub written_next : Averager → Reply → Averager
written_next averager Reply.Done = record averager { stage = Stage.Sending }
written_next averager _ = record averager { stage = Stage.Idle }

abbrev pub sending_answer : Averager → Stage → Reply → Call
sending_answer averager Stage.Allocating reply = allocated_answer averager reply
sending_answer averager Stage.Writing reply = written_answer reply
sending_answer averager Stage.Sending reply = Call.MmemFree 0
sending_answer averager _ reply = Call.Wait

abbrev pub sending_next : Averager → Stage → Reply → Averager
sending_next averager Stage.Allocating reply = allocated_next averager reply
sending_next averager Stage.Writing reply = written_next averager reply
sending_next averager _ reply = record averager { stage = Stage.Idle }

-- The byte goes into the table, the frame is released, and the average is printed. A frame with no byte is released
abbrev pub read_next : Averager → List ℕ → Averager
read_next averager [] = record averager { stage = Stage.Idle }
read_next averager (byte ∷ bytes) = record (measured byte averager) { stage = Stage.Taken }

abbrev pub reading_next : Averager → Reply → Averager
reading_next averager (Reply.Bytes bytes) = read_next averager bytes.items
reading_next averager _ = record averager { stage = Stage.Idle }

abbrev pub stage_answer : Averager → Stage → Reply → Call
stage_answer averager Stage.Reading reply = Call.PacketDone
stage_answer averager Stage.Taken reply = number_print (average_of averager)
stage_answer averager stage reply = sending_answer averager stage reply

abbrev pub reply_answer : Averager → Reply → Call
reply_answer averager reply = stage_answer averager averager.stage reply

abbrev pub stage_next : Averager → Stage → Reply → Averager
stage_next averager Stage.Reading reply = reading_next averager reply
stage_next averager Stage.Taken reply = record averager { stage = Stage.Idle }
stage_next averager stage reply = sending_next averager stage reply

abbrev pub reply_next : Averager → Reply → Averager
reply_next averager reply = stage_next averager averager.stage reply

abbrev pub averager_answer : Averager → Stimulus → Call
averager_answer averager (Stimulus.Event event) = event_answer averager event
averager_answer averager (Stimulus.Answer reply) = reply_answer averager reply
averager_answer averager (Stimulus.Callback timer) = Call.Wait

abbrev pub averager_next : Averager → Stimulus → Averager
averager_next averager (Stimulus.Event event) = event_next averager event
averager_next averager (Stimulus.Answer reply) = reply_next averager reply
averager_next averager (Stimulus.Callback timer) = averager

abbrev pub averager_says : Averager → Says
averager_says = fold_says averager_answer averager_next
