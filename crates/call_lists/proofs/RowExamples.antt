-- Examples: rows and their stimuli, calls with a received value, what applications with rows say.
use Rattle.std.proofs.Common.{◌≡◌, ℕ, Bool, true, false, List, [], ◌∷◌, map, Some, None, refl, codes}
use Rattle.mote_types.specs.Codes.{number_event, plain_event}
use Rattle.mote_types.specs.EventNumbers.{INIT, PACKET, TIMER}
use Rattle.mote_types.specs.declared.call.Call.{Call}
use Rattle.mote_types.specs.declared.event.Payload.{Payload}
use Rattle.mote_types.specs.declared.event.Stimulus.{Stimulus}
use Rattle.mote_types.specs.declared.refusal.Refusal.{Refusal}
use Rattle.mote_types.specs.declared.reply.Reply.{Reply}
use Rattle.call_lists.specs.RowFilling.{filled}
use Rattle.call_lists.specs.Rows.{Rule, reaction_says}
use Rattle.call_lists.specs.Triggers.{is_for}
use Rattle.call_lists.specs.declared.rows.row.Step.{Step}
use Rattle.call_lists.specs.declared.rows.trigger.Trigger.{Trigger}

abbrev starts : Stimulus
starts = Stimulus.Event (plain_event INIT)

abbrev rings : ℕ → Stimulus
rings timer = Stimulus.Event (number_event TIMER timer)

abbrev done : Stimulus
done = Stimulus.Answer Reply.Done

abbrev refused : Refusal → Stimulus
refused refusal = Stimulus.Answer (Reply.Refused refusal)

abbrev are_for : Trigger → List Stimulus → List Bool
are_for trigger stimuli = map (is_for trigger) stimuli

-- an event without a number is not the one with number 0
triggers : (are_for Trigger.Any (rings 0 ∷ done ∷ refused Refusal.NoRoom ∷ []) ≡ true ∷ false ∷ false ∷ [])
    × (are_for (Trigger.Event TIMER (Some 0)) (rings 0 ∷ rings 1 ∷ []) ≡ true ∷ false ∷ [])
    × (is_for (Trigger.Event INIT (Some 0)) starts ≡ false)
    × (are_for (Trigger.Callback (Some 2)) (Stimulus.Callback 2 ∷ Stimulus.Callback 1 ∷ []) ≡ true ∷ false ∷ [])
    × (are_for (Trigger.Refused (Some 12)) (refused Refusal.NoRoom ∷ refused Refusal.OverQuota ∷ []) ≡ true ∷ false ∷ [])
triggers = (refl, refl, refl, refl, refl)

-- a name is at most 255
fillings : (filled true (Payload.Num 7) (Call.MmemAlloc 3 0) ≡ Call.MmemAlloc 3 7)
    × (filled true (Payload.Num 300) (Call.Kill 0) ≡ Call.Kill 255)
    × (filled true (Payload.Num 7) (Call.Print (record { items = codes "a" })) ≡ Call.Print (record { items = [] }))
    × (filled false (Payload.Num 7) (Call.Kill 4) ≡ Call.Kill 4)
fillings = (refl, refl, refl, refl)

-- a call with all words written
abbrev fixed : Call → Step
fixed call = record { call = call; uses_received = false }

abbrev prints : List ℕ → Call
prints text = Call.Print (record { items = text })

abbrev row : Trigger → List Step → Rule
row trigger steps = record { trigger = trigger; steps = steps; place = 0; repeats = true }

-- what rows say when they receive these
abbrev they_say : List Rule → List (List Stimulus) → List Call
they_say rules stimuli = map (reaction_says (record { rules = rules; current = None; received = Payload.Empty })) stimuli

abbrev blinker : List Rule
blinker =
    row (Trigger.Event INIT None) (fixed (Call.TimerSet 0 10) ∷ [])
    ∷ row (Trigger.Event TIMER (Some 0))
    (fixed (prints (codes "on")) ∷ fixed (Call.TimerReset 0) ∷ fixed Call.Wait ∷ fixed (prints (codes "off")) ∷ [])
    ∷ []

-- an event gets the first call of its row; after the last one it waits; each row continues where it stopped,
-- and begins again after its end; no row is for timer 1
blinking : they_say blinker (
    (starts ∷ []) ∷ (starts ∷ done ∷ []) ∷ (starts ∷ done ∷ rings 0 ∷ []) ∷ (starts ∷ done ∷ rings 0 ∷ done ∷ [])
    ∷ (starts ∷ done ∷ rings 0 ∷ done ∷ done ∷ rings 0 ∷ []) ∷ (starts ∷ done ∷ rings 0 ∷ done ∷ done ∷ rings 0 ∷ done ∷ rings 0 ∷ [])
    ∷ (starts ∷ done ∷ rings 1 ∷ []) ∷ [])
    ≡ Call.TimerSet 0 10 ∷ Call.Wait ∷ prints (codes "on") ∷ Call.TimerReset 0 ∷ prints (codes "off") ∷ prints (codes "on") ∷ Call.Wait ∷ []
blinking = refl

-- a refusal turns to its row, where further refusals are plain replies; the interrupted row begins again
relaying : (frame : Stimulus) → frame ≡ Stimulus.Event (number_event PACKET 7) → they_say (
    row (Trigger.Event PACKET None) (record { call = Call.MmemAlloc 0 0; uses_received = true } ∷ fixed (Call.PacketSend 0) ∷ [])
    ∷ row (Trigger.Refused None) (fixed (Call.MmemFree 0) ∷ fixed Call.PacketDone ∷ []) ∷ []) (
    (frame ∷ []) ∷ (frame ∷ done ∷ []) ∷ (frame ∷ refused Refusal.NoRoom ∷ [])
    ∷ (frame ∷ refused Refusal.NoRoom ∷ refused Refusal.NotLive ∷ [])
    ∷ (frame ∷ refused Refusal.NoRoom ∷ refused Refusal.NotLive ∷ done ∷ frame ∷ []) ∷ [])
    ≡ Call.MmemAlloc 0 7 ∷ Call.PacketSend 0 ∷ Call.MmemFree 0 ∷ Call.PacketDone ∷ Call.MmemAlloc 0 7 ∷ []
relaying frame is = rw is refl
