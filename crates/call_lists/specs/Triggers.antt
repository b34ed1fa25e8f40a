-- Which stimuli a row is for.
use Rattle.std.specs.Prelude.{ℕ, Bool, true, false, ◌&&◌, ◌==◌, Option, Some, None}
use Rattle.mote_types.specs.Codes.{refusal_number}
use Rattle.mote_types.specs.declared.event.Event.{Event}
use Rattle.mote_types.specs.declared.event.Payload.{Payload}
use Rattle.mote_types.specs.declared.event.Stimulus.{Stimulus}
use Rattle.mote_types.specs.declared.reply.Reply.{Reply}
use Rattle.call_lists.specs.declared.rows.trigger.Trigger.{Trigger}

-- the number is the one that is asked for, where one is
abbrev pub is_asked : Option ℕ → ℕ → Bool
is_asked None n = true
is_asked (Some asked) n = n == asked

-- so is the number that an event carries
abbrev pub is_carried : Option ℕ → Payload → Bool
is_carried None payload = true
is_carried (Some asked) (Payload.Num n) = n == asked
is_carried (Some asked) payload = false

abbrev pub is_for_event : Trigger → Event → Bool
is_for_event Trigger.Any event = true
is_for_event (Trigger.Event code number) event = event.code == code && is_carried number event.payload
is_for_event (Trigger.Callback timer) event = false
is_for_event (Trigger.Refused number) event = false

abbrev pub is_for_callback : Trigger → ℕ → Bool
is_for_callback Trigger.Any timer = true
is_for_callback (Trigger.Event code number) timer = false
is_for_callback (Trigger.Callback asked) timer = is_asked asked timer
is_for_callback (Trigger.Refused number) timer = false

-- a reply that is no refusal has no row
abbrev pub is_for_reply : Trigger → Reply → Bool
is_for_reply (Trigger.Refused number) (Reply.Refused refusal) = is_asked number (refusal_number refusal)
is_for_reply trigger reply = false

abbrev pub is_for : Trigger → Stimulus → Bool
is_for trigger (Stimulus.Event event) = is_for_event trigger event
is_for trigger (Stimulus.Callback timer) = is_for_callback trigger timer
is_for trigger (Stimulus.Answer reply) = is_for_reply trigger reply

abbrev pub is_refusal : Trigger → Bool
is_refusal (Trigger.Refused number) = true
is_refusal trigger = false
