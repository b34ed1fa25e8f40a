-- What the application says that sends each frame that it receives.
use Rattle.std.specs.Prelude.{ℕ, ◌-◌, Bool, ◌&&◌, min, ◌==◌, if◌then◌else◌, nat_le, nat_lt}
use Rattle.mote_types.specs.Applications.{Says}
use Rattle.mote_types.specs.Code.StateMachines.{fold_says}
use Rattle.mote_types.specs.declared.call.Call.{Call}
use Rattle.mote_types.specs.declared.event.Payload.{Payload}
use Rattle.mote_types.specs.declared.event.Stimulus.{Stimulus}
use Rattle.mote_types.specs.EventNumbers.{INIT, PACKET}
use Rattle.mote_types.specs.Limits.{chunk_limit, frame_limit}
use Rattle.mote_types.specs.declared.reply.Reply.{Reply}
use Rattle.mote_apps.specs.declared.relay.Relay.{Relay}
use Rattle.mote_apps.specs.declared.relay.Stage.{Stage}

-- a next stage, and the call that leads to it
abbrev pub Step : Type 0
Step = Stage × Call

-- what comes after an answer, for a frame of n bytes
abbrev pub step_at : Stage → ℕ → Reply → Step
step_at Stage.Idle n reply = (Stage.Idle, Call.Wait)
step_at Stage.Allocating n Reply.Done = (Stage.ReadingFront, Call.PacketRead 0 (min n chunk_limit))
step_at Stage.Allocating n reply = (Stage.Finishing, Call.PacketDone)
step_at Stage.ReadingFront n (Reply.Bytes bytes) = (Stage.WritingFront, Call.MmemWrite 0 0 bytes)
step_at Stage.ReadingFront n reply = (Stage.Freeing, Call.MmemFree 0)
step_at Stage.WritingFront n Reply.Done =
    if nat_lt chunk_limit n then (Stage.ReadingRest, Call.PacketRead chunk_limit (n - chunk_limit)) else (Stage.Sending, Call.PacketSend 0)
step_at Stage.WritingFront n reply = (Stage.Freeing, Call.MmemFree 0)
step_at Stage.ReadingRest n (Reply.Bytes bytes) = (Stage.WritingRest, Call.MmemWrite 0 chunk_limit bytes)
step_at Stage.ReadingRest n reply = (Stage.Freeing, Call.MmemFree 0)
step_at Stage.WritingRest n Reply.Done = (Stage.Sending, Call.PacketSend 0)
step_at Stage.WritingRest n reply = (Stage.Freeing, Call.MmemFree 0)
step_at Stage.Sending n reply = (Stage.Freeing, Call.MmemFree 0)
step_at Stage.Freeing n reply = (Stage.Finishing, Call.PacketDone)
step_at Stage.Finishing n reply = (Stage.Idle, Call.Wait)

abbrev pub is_frame : ℕ → ℕ → Bool
is_frame code n = code == PACKET && nat_le 1 n && nat_le n frame_limit

-- a frame of n bytes has arrived
abbrev pub frame_answer : ℕ → Payload → Call
frame_answer code (Payload.Num n) = if is_frame code n then Call.MmemAlloc 0 n else Call.Wait
frame_answer code _ = Call.Wait

abbrev pub frame_next : ℕ → Payload → Relay → Relay
frame_next code (Payload.Num n) relay = if is_frame code n then record { len = n; stage = Stage.Allocating } else relay
frame_next code _ relay = relay

-- At its start it becomes the receiver. Each frame is read into a managed block, which is sent and given back, and so is
-- the frame
abbrev pub relay_answer : Relay → Stimulus → Call
relay_answer relay (Stimulus.Event event) =
    if event.code == INIT then Call.PacketOpen else frame_answer event.code event.payload
relay_answer relay (Stimulus.Answer reply) = (step_at relay.stage relay.len reply).1
relay_answer relay (Stimulus.Callback timer) = Call.Wait

abbrev pub relay_next : Relay → Stimulus → Relay
relay_next relay (Stimulus.Event event) =
    if event.code == INIT then record relay { stage = Stage.Idle } else frame_next event.code event.payload relay
relay_next relay (Stimulus.Answer reply) = record relay { stage = (step_at relay.stage relay.len reply).0 }
relay_next relay (Stimulus.Callback timer) = relay

abbrev pub relay_says : Relay → Says
relay_says = fold_says relay_answer relay_next
