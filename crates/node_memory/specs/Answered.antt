-- What a call leaves of a part of memory, and its reply.
use Rattle.std.specs.Prelude.{Option, Some, None}
use Rattle.mote_types.specs.Kinds.{Bytes}
use Rattle.mote_types.specs.declared.reply.Reply.{Reply}
use Rattle.mote_types.specs.declared.refusal.Refusal.{Refusal}

abbrev pub Asked : Type 0 → Type 0
Asked S = S × Reply

module _ {S : Type 0} where
  abbrev pub unless_refused : Option Refusal → S → Asked S → Asked S
  unless_refused None s answered = answered
  unless_refused (Some refusal) s answered = (s, Reply.Refused refusal)

  abbrev pub done : S → Asked S
  done s = (s, Reply.Done)

  abbrev pub bytes_read : Bytes → S → Asked S
  bytes_read bytes s = (s, Reply.Bytes (record { items = bytes }))
