-- The event numbers, the events that the kernel makes, and the numbers of the refusals.
use Rattle.std.specs.Prelude.{ℕ, Bool, [], ◌∷◌, ◌==◌}
use Rattle.std.specs.List.{list_any}
use Rattle.mote_types.specs.Kinds.{EventCode}
use Rattle.mote_types.specs.declared.event.Event.{Event}
use Rattle.mote_types.specs.declared.event.Payload.{Payload}
use Rattle.mote_types.specs.EventNumbers.{NONE, INIT, POLL, EXIT, SERVICE_REMOVED, EXITED, TIMER, SERIAL_LINE, PACKET}
use Rattle.mote_types.specs.declared.refusal.Refusal.{Refusal}

abbrev pub plain_event : EventCode → Event
plain_event code = record { code = code; payload = Payload.Empty }

abbrev pub number_event : EventCode → ℕ → Event
number_event code n = record { code = code; payload = Payload.Num n }

-- the events that no application may post
abbrev pub is_reserved : EventCode → Bool
is_reserved code =
    list_any (λ reserved. code == reserved)
    (NONE ∷ INIT ∷ POLL ∷ EXIT ∷ SERVICE_REMOVED ∷ EXITED ∷ TIMER ∷ SERIAL_LINE ∷ PACKET ∷ [])

-- the number of a refusal in a transcript
abbrev pub refusal_number : Refusal → ℕ
refusal_number Refusal.Full = 1
refusal_number Refusal.NotRunning = 2
refusal_number Refusal.Already = 3
refusal_number Refusal.Busy = 4
refusal_number Refusal.Reserved = 5
refusal_number Refusal.NoEvent = 6
refusal_number Refusal.BadName = 7
refusal_number Refusal.InUse = 8
refusal_number Refusal.NotLive = 9
refusal_number Refusal.Empty = 10
refusal_number Refusal.Range = 11
refusal_number Refusal.NoRoom = 12
refusal_number Refusal.NoBlock = 13
refusal_number Refusal.Linked = 14
refusal_number Refusal.NotLinked = 15
refusal_number Refusal.NoPacket = 16
refusal_number Refusal.NotReceiver = 17
refusal_number Refusal.OverQuota = 18
