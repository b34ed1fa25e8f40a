-- What is put into a turn that reports nothing yet.
use Rattle.std.specs.Prelude.{ℕ, List, ◌++◌, length, drop}
use Rattle.mote_types.specs.declared.event.Event.{Event}
use Rattle.mote_types.specs.declared.reply.Reply.{Reply}
use Rattle.library_core.specs.declared.turn.PlainTurn.{PlainTurn}
use Rattle.library_core.specs.Turns.{payload_bytes, payload_number, payload_value, reply_bytes, reply_number, reply_stats, reply_value}

abbrev pub with_bytes : List ℕ → PlainTurn → PlainTurn
with_bytes bytes turn = record turn { length = length bytes; bytes = bytes ++ drop (length bytes) turn.bytes }

abbrev pub event_part : Event → PlainTurn → PlainTurn
event_part event turn =
    with_bytes (payload_bytes event.payload)
    (record turn { stimulus = 0; event = event.code; payload = payload_number event.payload; number = payload_value event.payload })

abbrev pub reply_part : Reply → PlainTurn → PlainTurn
reply_part reply turn =
    with_bytes (reply_bytes reply)
    (record turn { stimulus = 2; reply = reply_number reply; number = reply_value reply; stats = reply_stats reply })
