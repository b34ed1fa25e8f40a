-- What an application with rows says: for each stimulus its calls.
use Rattle.std.specs.Prelude.{ℕ, ◌+◌, Bool, false, if◌then◌else◌, nat_lt, List, length, position, slice_get, slice_set, Option, Some, None}
use Rattle.mote_types.specs.Applications.{Says}
use Rattle.mote_types.specs.Code.StateMachines.{fold_says}
use Rattle.mote_types.specs.declared.call.Call.{Call}
use Rattle.mote_types.specs.declared.event.Payload.{Payload}
use Rattle.mote_types.specs.declared.event.Stimulus.{Stimulus}
use Rattle.mote_types.specs.declared.reply.Reply.{Reply}
use Rattle.call_lists.specs.RowFilling.{filled}
use Rattle.call_lists.specs.Triggers.{is_for, is_refusal}
use Rattle.call_lists.specs.declared.rows.row.Step.{Step}
use Rattle.call_lists.specs.declared.rows.trigger.Trigger.{Trigger}

-- the stimuli that it is for, its calls, the number of those made since it began, and whether it begins anew once it has made all
pub record Rule : Type 0 where
  pub trigger : Trigger
  pub steps : List Step
  pub place : ℕ
  pub repeats : Bool

-- the rows, which of them is active, and the last received value that a call can use
pub record Reaction : Type 0 where
  pub rules : List Rule
  pub current : Option ℕ
  pub received : Payload

-- What was received last: what an event carries, the number of a callback timer, the number or the bytes of a reply
abbrev pub received_after : Payload → Stimulus → Payload
received_after received (Stimulus.Event event) = event.payload
received_after received (Stimulus.Callback timer) = Payload.Num timer
received_after received (Stimulus.Answer (Reply.Num n)) = Payload.Num n
received_after received (Stimulus.Answer (Reply.Bytes bytes)) = Payload.Line (record { items = bytes.items })
received_after received (Stimulus.Answer reply) = received

-- the first row for a stimulus
abbrev pub row_for : List Rule → Stimulus → Option ℕ
row_for rules stimulus = position (λ rule. is_for rule.trigger stimulus) rules

abbrev pub row_at : List Rule → Option ℕ → Option Rule
row_at rules None = None
row_at rules (Some i) = slice_get rules i

-- the rows, with another one at this position, where there is one
abbrev pub replaced : (Rule → Rule) → List Rule → Option ℕ → Option Rule → List Rule
replaced change rules (Some i) (Some rule) = slice_set rules i (change rule)
replaced change rules current rule = rules

abbrev pub changed : (Rule → Rule) → List Rule → Option ℕ → List Rule
changed change rules current = replaced change rules current (row_at rules current)

abbrev pub begun_anew : Rule → Rule
begun_anew rule = record rule { place = 0 }

abbrev pub is_refusal_row : Option Rule → Bool
is_refusal_row None = false
is_refusal_row (Some rule) = is_refusal rule.trigger

-- A refusal that a row is for breaks off the row that made the call, which begins anew then. A row for refusals is not broken off
abbrev pub after_refusal : Reaction → Option ℕ → Reaction
after_refusal reaction None = reaction
after_refusal reaction (Some i) =
    if is_refusal_row (row_at reaction.rules reaction.current) then reaction
    else record reaction { rules = changed begun_anew reaction.rules reaction.current; current = Some i }

-- An event and a callback go to the first row for them, a reply to the row that made the call
abbrev pub chosen : Reaction → Stimulus → Reaction
chosen reaction (Stimulus.Event event) = record reaction { current = row_for reaction.rules (Stimulus.Event event) }
chosen reaction (Stimulus.Callback timer) = record reaction { current = row_for reaction.rules (Stimulus.Callback timer) }
chosen reaction (Stimulus.Answer (Reply.Refused refusal)) =
    after_refusal reaction (row_for reaction.rules (Stimulus.Answer (Reply.Refused refusal)))
chosen reaction (Stimulus.Answer reply) = reaction

abbrev pub receiving : Reaction → Stimulus → Reaction
receiving reaction stimulus = chosen (record reaction { received = received_after reaction.received stimulus }) stimulus

abbrev pub call_of_step : Payload → Option Step → Call
call_of_step received None = Call.Wait
call_of_step received (Some step) = filled step.uses_received received step.call

-- a row goes on where it stopped, and waits after its last call
abbrev pub next_call : Payload → Option Rule → Call
next_call received None = Call.Wait
next_call received (Some rule) = call_of_step received (slice_get rule.steps rule.place)

-- that wait is where it begins anew, if it does
abbrev pub one_further : Rule → Rule
one_further rule =
    if nat_lt rule.place (length rule.steps) then record rule { place = rule.place + 1 }
    else if rule.repeats then begun_anew rule
    else rule

abbrev pub made_call : Reaction → Call
made_call reaction = next_call reaction.received (row_at reaction.rules reaction.current)

abbrev pub gone_on : Reaction → Reaction
gone_on reaction = record reaction { rules = changed one_further reaction.rules reaction.current }

abbrev pub reaction_call : Reaction → Stimulus → Call
reaction_call reaction stimulus = made_call (receiving reaction stimulus)

abbrev pub reaction_next : Reaction → Stimulus → Reaction
reaction_next reaction stimulus = gone_on (receiving reaction stimulus)

abbrev pub reaction_says : Reaction → Says
reaction_says = fold_says reaction_call reaction_next
