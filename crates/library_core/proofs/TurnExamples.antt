-- Examples: what structs say, and what turns report.
use Rattle.std.proofs.Common.{◌≡◌, ℕ, Option, List, ◌∷◌, refl, Some, None, replicate, map, true, false, []}
use Rattle.mote_types.specs.Codes.{number_event}
use Rattle.mote_types.specs.declared.call.Call.{Call}
use Rattle.mote_types.specs.declared.entry.Input.{Input}
use Rattle.mote_types.specs.declared.event.Origin.{Origin}
use Rattle.mote_types.specs.declared.event.Payload.{Payload}
use Rattle.mote_types.specs.declared.event.Stimulus.{Stimulus}
use Rattle.mote_types.specs.declared.refusal.Refusal.{Refusal}
use Rattle.mote_types.specs.declared.reply.Reply.{Reply}
use Rattle.library_core.specs.Calls.{byte_at, bytes_within, call_said, chunk_of, number_at, payload_of}
use Rattle.library_core.specs.Inputs.{bytes_if_few, input_said}
use Rattle.library_core.specs.Turns.{event_told, flag_number, no_stats, number_told, origin_number, payload_told, plain_stats, reply_told, stats_told, turn_told}
use Rattle.library_core.specs.declared.call.PlainCall.{PlainCall}
use Rattle.library_core.specs.declared.turn.PlainTurn.{PlainTurn}

-- a call with these numbers, and n bytes of 7
abbrev with_bytes : ℕ → List ℕ → ℕ → ℕ → PlainCall
with_bytes kind numbers payload count =
    record { kind = kind; numbers = numbers; payload = payload; number = 77; length = count; bytes = replicate 128 7 }

abbrev plain : ℕ → List ℕ → PlainCall
plain kind numbers = with_bytes kind numbers 0 0

abbrev said : ℕ → ℕ → ℕ → ℕ → ℕ → Option Call
said kind a b c d = call_said (plain kind (a ∷ b ∷ c ∷ d ∷ []))

abbrev said_with : ℕ → ℕ → ℕ → ℕ → ℕ → ℕ → Option Call
said_with kind a b c payload count = call_said (with_bytes kind (a ∷ b ∷ c ∷ 0 ∷ []) payload count)

-- the kinds are numbered as in mote_types
kinds : (said 1 5 134 9 9 ≡ Some (Call.Post 5 134 Payload.Empty)) × (said 9 2 70000 0 0 ≡ Some (Call.TimerSet 2 70000))
    × (said 18 999 999 999 999 ≡ Some Call.Wait) × (said 35 1 2 300 4 ≡ Some (Call.MembRead 1 2 300 4))
    × (said 47 300 4 0 0 ≡ Some (Call.PacketRead 300 4)) × (said 50 15 0 0 0 ≡ Some (Call.PacketSend 15))
kinds = (refl, refl, refl, refl, refl, refl)

-- no kind 0, and none after the last; a name is a byte
kinds_and_names : (said 0 1 1 1 1 ≡ None) × (said 51 1 1 1 1 ≡ None) × (said 4 255 0 0 0 ≡ Some (Call.Poll 255))
    × (said 4 256 0 0 0 ≡ None) × (said 37 0 256 0 0 ≡ None)
kinds_and_names = (refl, refl, refl, refl, refl)

-- a number at each of four positions; a name is a byte
numbers : (number_at 2 (plain 1 (5 ∷ 6 ∷ 7 ∷ 8 ∷ [])) ≡ 7) × (number_at 4 (plain 1 (5 ∷ 6 ∷ 7 ∷ 8 ∷ [])) ≡ 0)
    × (byte_at 1 (plain 1 (256 ∷ 255 ∷ 0 ∷ 0 ∷ [])) ≡ Some 255) × (byte_at 0 (plain 1 (256 ∷ 255 ∷ 0 ∷ 0 ∷ [])) ≡ None)
numbers = (refl, refl, refl, refl)

bytes : (bytes_within 2 (with_bytes 17 [] 0 2) ≡ Some (record { items = 7 ∷ 7 ∷ [] })) × (bytes_within 2 (with_bytes 17 [] 0 3) ≡ None)
    × (chunk_of (plain 17 []) ≡ Some (record { items = [] })) × (payload_of (with_bytes 1 [] 0 128) ≡ Some Payload.Empty)
bytes = (refl, refl, refl, refl)

-- one name, two in order, three; numbers that a call lacks are ignored
counts : (said 5 300 4 0 0 ≡ None) × (call_said (with_bytes 16 (999 ∷ 999 ∷ 999 ∷ 999 ∷ []) 9 999) ≡ Some Call.Clock)
    × (said 24 3 4 0 0 ≡ Some (Call.MmemCopy 3 4)) × (said 24 256 4 0 0 ≡ None)
    × (said 39 1 2 3 999 ≡ Some (Call.ListInsert 1 2 3)) × (said 39 1 2 256 0 ≡ None)
counts = (refl, refl, refl, refl, refl, refl)

-- a name is a byte; a read has any offset, and its length is a byte
reads : (said 20 256 16 0 0 ≡ None) × (said 23 1 70000 64 999 ≡ Some (Call.MmemRead 1 70000 64)) × (said 23 1 0 256 0 ≡ None)
    × (said 47 0 256 0 0 ≡ None) × (said 35 1 2 0 256 ≡ None)
reads = (refl, refl, refl, refl, refl)

writes : (said_with 29 1 300 0 0 2 ≡ Some (Call.HeapWrite 1 300 (record { items = 7 ∷ 7 ∷ [] }))) × (said_with 29 1 300 0 0 65 ≡ None)
    × (said_with 34 1 2 300 0 1 ≡ Some (Call.MembWrite 1 2 300 (record { items = 7 ∷ [] }))) × (said_with 34 1 256 300 0 1 ≡ None)
writes = (refl, refl, refl, refl)

-- an event's code and the process it is posted to are bytes; at most 64 bytes are printed
events_and_prints : (said 2 256 0 0 0 ≡ None) × (said 1 256 140 0 0 ≡ None)
    × (said_with 17 0 0 0 0 64 ≡ Some (Call.Print (record { items = replicate 64 7 }))) × (said_with 17 0 0 0 0 65 ≡ None)
events_and_prints = (refl, refl, refl, refl)

-- what events carry
carried : (said_with 2 140 0 0 1 999 ≡ Some (Call.Broadcast 140 (Payload.Num 77)))
    × (said_with 3 4 140 0 2 127 ≡ Some (Call.PostSynch 4 140 (Payload.Line (record { items = replicate 127 7 }))))
    × (said_with 3 4 140 0 2 128 ≡ None) × (said_with 3 4 140 0 3 0 ≡ None)
carried = (refl, refl, refl, refl)

-- inputs: all bytes, or none of too many
few : (bytes_if_few 2 (1 ∷ 2 ∷ []) ≡ 1 ∷ 2 ∷ []) × (bytes_if_few 2 (1 ∷ 2 ∷ 3 ∷ []) ≡ [])
few = (refl, refl)

inputs : (input_said 1 5 (replicate 256 7) ≡ Input.Serial (record { items = replicate 256 7 }))
    × (input_said 1 5 (replicate 257 7) ≡ Input.Serial (record { items = [] })) × (input_said 0 5 (1 ∷ []) ≡ Input.Tick 5)
    × (input_said 2 0 (replicate 127 7) ≡ Input.Frame (record { items = replicate 127 7 }))
    × (input_said 2 0 (replicate 128 7) ≡ Input.Frame (record { items = [] }))
    × (input_said 3 0 (1 ∷ []) ≡ Input.Serial (record { items = [] }))
inputs = (refl, refl, refl, refl, refl, refl)

-- a turn that reports nothing yet: fields without meaning are 0, and bytes after the reported ones are unchanged
abbrev nothing_told : PlainTurn
nothing_told = record {
  process = 4;
  origin = 0;
  stimulus = 0;
  event = 0;
  payload = 0;
  reply = 0;
  number = 0;
  stats = no_stats;
  length = 0;
  bytes = 8 ∷ 9 ∷ [];
}

abbrev answered : PlainTurn
answered = record nothing_told { origin = 4; stimulus = 2 }

told_event : turn_told 4 Origin.Event (Stimulus.Event (number_event 136 2)) (8 ∷ 9 ∷ [])
    ≡ record nothing_told { event = 136; payload = 1; number = 2 }
told_event = refl

told_refusal : turn_told 5 Origin.Answer (Stimulus.Answer (Reply.Refused Refusal.OverQuota)) (8 ∷ 9 ∷ [])
    ≡ record answered { process = 5; reply = 1; number = 18 }
told_refusal = refl

told_bytes : turn_told 4 Origin.Answer (Stimulus.Answer (Reply.Bytes (record { items = 1 ∷ [] }))) (8 ∷ 9 ∷ [])
    ≡ record answered { reply = 5; length = 1; bytes = 1 ∷ 9 ∷ [] }
told_bytes = refl

told_callback : turn_told 19 Origin.Callback (Stimulus.Callback 3) []
    ≡ record nothing_told { process = 19; origin = 3; stimulus = 1; number = 3; bytes = [] }
told_callback = refl

told_flags : (turn_told 4 Origin.Answer (Stimulus.Answer (Reply.Flag true)) [] ≡ record answered { reply = 4; number = 1; bytes = [] })
    × (turn_told 4 Origin.Answer (Stimulus.Answer (Reply.Flag false)) [] ≡ record answered { reply = 4; bytes = [] })
told_flags = (refl, refl)

told_line : turn_told 4 Origin.Synch (Stimulus.Event (record { code = 140; payload = Payload.Line (record { items = 1 ∷ 2 ∷ [] }) }))
    (8 ∷ 9 ∷ 10 ∷ []) ≡ record nothing_told { origin = 1; event = 140; payload = 2; length = 2; bytes = 1 ∷ 2 ∷ 10 ∷ [] }
told_line = refl

told_stats : turn_told 4 Origin.Answer
    (Stimulus.Answer (Reply.Stats (record { allocated = 1; overhead = 2; available = 3; footprint = 4; chunks = 5 }))) []
    ≡ record answered { reply = 6; stats = record { allocated = 1; overhead = 2; available = 3; footprint = 4; chunks = 5 }; bytes = [] }
told_stats = refl

-- the numbers of what is reported, and 0 for fields without meaning
told_numbers : (map origin_number (Origin.Event ∷ Origin.Synch ∷ Origin.Poll ∷ Origin.Callback ∷ []) ≡ 0 ∷ 1 ∷ 2 ∷ 3 ∷ [])
    × (flag_number true ≡ 1) × (flag_number false ≡ 0)
    × (map reply_told (Stimulus.Answer Reply.Done ∷ Stimulus.Answer (Reply.Num 7) ∷ Stimulus.Answer (Reply.Wide 7)
    ∷ Stimulus.Event (number_event 136 2) ∷ []) ≡ 0 ∷ 2 ∷ 3 ∷ 0 ∷ [])
    × (event_told (Stimulus.Callback 3) ≡ 0) × (payload_told (Stimulus.Callback 3) ≡ 0) × (stats_told (Stimulus.Callback 3) ≡ no_stats)
    × (map (λ reply. number_told (Stimulus.Answer reply)) (Reply.Wide 4294967296 ∷ Reply.Num 9 ∷ Reply.Done ∷ []) ≡ 4294967296 ∷ 9 ∷ 0 ∷ [])
told_numbers = (refl, refl, refl, refl, refl, refl, refl, refl)

all_of_the_heap : plain_stats (record { allocated = 1; overhead = 2; available = 3; footprint = 4; chunks = 5 })
    ≡ record { allocated = 1; overhead = 2; available = 3; footprint = 4; chunks = 5 }
all_of_the_heap = refl
