-- What a struct of a call says: the call of its kind, with its numbers and its bytes; or none.
use Rattle.std.specs.Prelude.{ℕ, List, [], ◌∷◌, take, slice_index_or, Option, Some, None, option_map, option_and_then, if◌then◌else◌, ◌==◌, nat_lt, nat_le}
use Rattle.mote_types.specs.declared.call.Call.{Call}
use Rattle.mote_types.specs.declared.event.Payload.{Payload}
use Rattle.arrayvec.specs.ArrayVec.{ArrayVec}
use Rattle.library_core.specs.declared.call.PlainCall.{PlainCall}

-- its parts

abbrev pub number_at : ℕ → PlainCall → ℕ
number_at index c = slice_index_or c.numbers index 0

-- a name, or the number of bytes to read: a number that fits in a byte
abbrev pub byte_at : ℕ → PlainCall → Option ℕ
byte_at index c = if nat_lt (number_at index c) 256 then Some (number_at index c) else None

-- the first bytes, if these are not too many
abbrev pub bytes_within : ℕ → PlainCall → Option (ArrayVec ℕ)
bytes_within most c = if nat_le c.length most then Some (record { items = take c.length c.bytes }) else None

-- of a print or of a write
abbrev pub chunk_of : PlainCall → Option (ArrayVec ℕ)
chunk_of = bytes_within 64

-- of an event
abbrev pub payload_of : PlainCall → Option Payload
payload_of c =
    if c.payload == 0 then Some Payload.Empty
    else if c.payload == 1 then Some (Payload.Num c.number)
    else if c.payload == 2 then option_map (λ line. Payload.Line line) (bytes_within 127 c)
    else None

-- what it says, by the parts that a call has, in the order in which a transcript shows them

abbrev pub Reading : Type 0
Reading = PlainCall → Option Call

abbrev pub no_call : Reading
no_call c = None

abbrev pub bare : Call → Reading
bare call c = Some call

abbrev pub printing : (ArrayVec ℕ → Call) → Reading
printing call c = option_map call (chunk_of c)

-- a name
abbrev pub named : (ℕ → Call) → Reading
named call c = option_map call (byte_at 0 c)

-- two names
abbrev pub paired : (ℕ → ℕ → Call) → Reading
paired call c = option_and_then (λ a. option_map (call a) (byte_at 1 c)) (byte_at 0 c)

-- three names
abbrev pub tripled : (ℕ → ℕ → ℕ → Call) → Reading
tripled call c =
    option_and_then (λ a. option_and_then (λ b. option_map (call a b) (byte_at 2 c)) (byte_at 1 c)) (byte_at 0 c)

-- a name, and a length or an interval
abbrev pub sized : (ℕ → ℕ → Call) → Reading
sized call c = option_map (λ a. call a (number_at 1 c)) (byte_at 0 c)

-- an offset, and the number of bytes to read from there on
abbrev pub spanned : (ℕ → ℕ → Call) → Reading
spanned call c = option_map (call (number_at 0 c)) (byte_at 1 c)

-- a name, an offset, and the number of bytes to read
abbrev pub reading : (ℕ → ℕ → ℕ → Call) → Reading
reading call c = option_and_then (λ a. option_map (call a (number_at 1 c)) (byte_at 2 c)) (byte_at 0 c)

-- a name, an offset, and what is written there
abbrev pub writing : (ℕ → ℕ → ArrayVec ℕ → Call) → Reading
writing call c = option_and_then (λ a. option_map (call a (number_at 1 c)) (chunk_of c)) (byte_at 0 c)

-- the same of a block of a pool: two names
abbrev pub pool_reading : (ℕ → ℕ → ℕ → ℕ → Call) → Reading
pool_reading call c =
    option_and_then (λ a. option_and_then (λ b. option_map (call a b (number_at 2 c)) (byte_at 3 c)) (byte_at 1 c)) (byte_at 0 c)

abbrev pub pool_writing : (ℕ → ℕ → ℕ → ArrayVec ℕ → Call) → Reading
pool_writing call c =
    option_and_then (λ a. option_and_then (λ b. option_map (call a b (number_at 2 c)) (chunk_of c)) (byte_at 1 c)) (byte_at 0 c)

-- the code of an event, and what it carries
abbrev pub announcing : (ℕ → Payload → Call) → Reading
announcing call c = option_and_then (λ code. option_map (call code) (payload_of c)) (byte_at 0 c)

-- a process before that
abbrev pub posting : (ℕ → ℕ → Payload → Call) → Reading
posting call c =
    option_and_then (λ a. option_and_then (λ code. option_map (call a code) (payload_of c)) (byte_at 1 c)) (byte_at 0 c)

-- what a call of each kind says, in the order of the kinds: 0 is none, and 1, 2, .. are as mote_types has them
abbrev pub readings : List Reading
readings =
    no_call
    ∷ posting (λ q code payload. Call.Post q code payload)
    ∷ announcing (λ code payload. Call.Broadcast code payload)
    ∷ posting (λ q code payload. Call.PostSynch q code payload)
    ∷ named (λ q. Call.Poll q)
    ∷ named (λ q. Call.Start q)
    ∷ named (λ q. Call.Kill q)
    ∷ named (λ q. Call.IsRunning q)
    ∷ bare Call.AllocEvent
    ∷ sized (λ t n. Call.TimerSet t n)
    ∷ named (λ t. Call.TimerStop t)
    ∷ named (λ t. Call.TimerReset t)
    ∷ named (λ t. Call.TimerRestart t)
    ∷ named (λ t. Call.TimerExpired t)
    ∷ sized (λ t n. Call.CallbackSet t n)
    ∷ named (λ t. Call.CallbackStop t)
    ∷ bare Call.Clock
    ∷ printing (λ chunk. Call.Print chunk)
    ∷ bare Call.Wait
    ∷ bare Call.Exit
    ∷ sized (λ h n. Call.MmemAlloc h n)
    ∷ named (λ h. Call.MmemFree h)
    ∷ writing (λ h at chunk. Call.MmemWrite h at chunk)
    ∷ reading (λ h at len. Call.MmemRead h at len)
    ∷ paired (λ h g. Call.MmemCopy h g)
    ∷ bare Call.MmemAvail
    ∷ sized (λ b n. Call.HeapAlloc b n)
    ∷ sized (λ b n. Call.HeapRealloc b n)
    ∷ named (λ b. Call.HeapFree b)
    ∷ writing (λ b at chunk. Call.HeapWrite b at chunk)
    ∷ reading (λ b at len. Call.HeapRead b at len)
    ∷ bare Call.HeapStats
    ∷ named (λ k. Call.MembAlloc k)
    ∷ paired (λ k b. Call.MembFree k b)
    ∷ pool_writing (λ k b at chunk. Call.MembWrite k b at chunk)
    ∷ pool_reading (λ k b at len. Call.MembRead k b at len)
    ∷ named (λ k. Call.MembNumFree k)
    ∷ paired (λ l b. Call.ListAdd l b)
    ∷ paired (λ l b. Call.ListPush l b)
    ∷ tripled (λ l p b. Call.ListInsert l p b)
    ∷ named (λ l. Call.ListPop l)
    ∷ named (λ l. Call.ListChop l)
    ∷ paired (λ l b. Call.ListRemove l b)
    ∷ named (λ l. Call.ListHead l)
    ∷ paired (λ l b. Call.ListNext l b)
    ∷ named (λ l. Call.ListLength l)
    ∷ bare Call.PacketOpen
    ∷ spanned (λ at len. Call.PacketRead at len)
    ∷ bare Call.PacketDone
    ∷ bare Call.PacketCount
    ∷ named (λ h. Call.PacketSend h)
    ∷ []

-- the call that it says, if it says one
abbrev pub call_said : PlainCall → Option Call
call_said c = slice_index_or readings c.kind no_call c
