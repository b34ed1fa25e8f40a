-- The reply to a call that returns no value.
use Rattle.std.specs.Prelude.{Result, Ok, Err}
use Rattle.mote_types.specs.declared.refusal.Refusal.{Refusal}
use Rattle.mote_types.specs.declared.reply.Reply.{Reply}

abbrev pub reply_to : {T : Type 0} → Result T Refusal → Reply
reply_to (Ok value) = Reply.Done
reply_to (Err refusal) = Reply.Refused refusal
