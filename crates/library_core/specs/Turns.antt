-- How a turn is reported in a struct of numbers and bytes.
use Rattle.std.specs.Prelude.{ℕ, Bool, true, false, List, [], ◌++◌, length, drop}
use Rattle.mote_types.specs.Codes.{refusal_number}
use Rattle.mote_types.specs.declared.event.Origin.{Origin}
use Rattle.mote_types.specs.declared.event.Payload.{Payload}
use Rattle.mote_types.specs.declared.event.Stimulus.{Stimulus}
use Rattle.mote_types.specs.declared.reply.HeapStats.{HeapStats}
use Rattle.mote_types.specs.declared.reply.Reply.{Reply}
use Rattle.library_core.specs.declared.turn.PlainStats.{PlainStats}
use Rattle.library_core.specs.declared.turn.PlainTurn.{PlainTurn}

abbrev pub origin_number : Origin → ℕ
origin_number Origin.Event = 0
origin_number Origin.Synch = 1
origin_number Origin.Poll = 2
origin_number Origin.Callback = 3
origin_number Origin.Answer = 4

abbrev pub stimulus_number : Stimulus → ℕ
stimulus_number (Stimulus.Event event) = 0
stimulus_number (Stimulus.Callback timer) = 1
stimulus_number (Stimulus.Answer reply) = 2

abbrev pub payload_number : Payload → ℕ
payload_number Payload.Empty = 0
payload_number (Payload.Num n) = 1
payload_number (Payload.Line line) = 2

abbrev pub reply_number : Reply → ℕ
reply_number Reply.Done = 0
reply_number (Reply.Refused refusal) = 1
reply_number (Reply.Num n) = 2
reply_number (Reply.Wide n) = 3
reply_number (Reply.Flag flag) = 4
reply_number (Reply.Bytes chunk) = 5
reply_number (Reply.Stats stats) = 6

abbrev pub flag_number : Bool → ℕ
flag_number false = 0
flag_number true = 1

abbrev pub no_stats : PlainStats
no_stats = record { allocated = 0; overhead = 0; available = 0; footprint = 0; chunks = 0 }

abbrev pub plain_stats : HeapStats → PlainStats
plain_stats stats =
    record {
      allocated = stats.allocated;
      overhead = stats.overhead;
      available = stats.available;
      footprint = stats.footprint;
      chunks = stats.chunks;
    }

-- what a stimulus has: a number, bytes, the state of the heap

abbrev pub payload_value : Payload → ℕ
payload_value (Payload.Num n) = n
payload_value payload = 0

abbrev pub payload_bytes : Payload → List ℕ
payload_bytes (Payload.Line line) = line.items
payload_bytes payload = []

abbrev pub reply_value : Reply → ℕ
reply_value (Reply.Refused refusal) = refusal_number refusal
reply_value (Reply.Num n) = n
reply_value (Reply.Wide n) = n
reply_value (Reply.Flag flag) = flag_number flag
reply_value reply = 0

abbrev pub reply_bytes : Reply → List ℕ
reply_bytes (Reply.Bytes chunk) = chunk.items
reply_bytes reply = []

abbrev pub reply_stats : Reply → PlainStats
reply_stats (Reply.Stats stats) = plain_stats stats
reply_stats reply = no_stats

abbrev pub event_told : Stimulus → ℕ
event_told (Stimulus.Event event) = event.code
event_told stimulus = 0

abbrev pub payload_told : Stimulus → ℕ
payload_told (Stimulus.Event event) = payload_number event.payload
payload_told stimulus = 0

abbrev pub reply_told : Stimulus → ℕ
reply_told (Stimulus.Answer reply) = reply_number reply
reply_told stimulus = 0

abbrev pub number_told : Stimulus → ℕ
number_told (Stimulus.Event event) = payload_value event.payload
number_told (Stimulus.Callback timer) = timer
number_told (Stimulus.Answer reply) = reply_value reply

abbrev pub stats_told : Stimulus → PlainStats
stats_told (Stimulus.Answer reply) = reply_stats reply
stats_told stimulus = no_stats

abbrev pub bytes_told : Stimulus → List ℕ
bytes_told (Stimulus.Event event) = payload_bytes event.payload
bytes_told (Stimulus.Answer reply) = reply_bytes reply
bytes_told stimulus = []

-- the turn of process p: its bytes are at the front of those that were there
abbrev pub turn_told : ℕ → Origin → Stimulus → List ℕ → PlainTurn
turn_told p origin stimulus there =
    record {
      process = p;
      origin = origin_number origin;
      stimulus = stimulus_number stimulus;
      event = event_told stimulus;
      payload = payload_told stimulus;
      reply = reply_told stimulus;
      number = number_told stimulus;
      stats = stats_told stimulus;
      length = length (bytes_told stimulus);
      bytes = bytes_told stimulus ++ drop (length (bytes_told stimulus)) there;
    }
