-- The possible calls: numbers and bytes are in the ranges of their types.
use Rattle.std.specs.Prelude.{◌<◌, ◌≤◌, ◌^◌, ⊤, ℕ, List, [], ◌∷◌, length}
use Rattle.arrayvec.specs.ArrayVec.{ArrayVec}
use Rattle.hex.specs.Hex.{IsBytes}
use Rattle.mote_types.specs.Limits.{chunk_limit, line_bytes}
use Rattle.mote_types.specs.declared.call.Call.{Call}
use Rattle.mote_types.specs.declared.event.Payload.{Payload}

abbrev pub IsByte : ℕ → Type 0
IsByte n = n < 2 ^ 8

abbrev pub IsWide : ℕ → Type 0
IsWide n = n < 2 ^ 32

-- at most n bytes
abbrev pub AreBytes : ℕ → List ℕ → Type 0
AreBytes most bytes = (length bytes ≤ most) × IsBytes bytes

abbrev pub IsChunk : ArrayVec ℕ → Type 0
IsChunk chunk = AreBytes chunk_limit chunk.items

abbrev pub IsPayload : Payload → Type 0
IsPayload Payload.Empty = ⊤
IsPayload (Payload.Num n) = IsWide n
IsPayload (Payload.Line line) = AreBytes line_bytes line.items

-- this call is possible: a word of `call_words` for a block, a timer, a process, an event or a number of bytes to read is a
-- byte; one for an offset, a size or an interval has 32 bits
abbrev pub IsPossible : Call → Type 0
IsPossible (Call.Post process code payload) = IsByte process × IsByte code × IsPayload payload
IsPossible (Call.Broadcast code payload) = IsByte code × IsPayload payload
IsPossible (Call.PostSynch process code payload) = IsByte process × IsByte code × IsPayload payload
IsPossible (Call.Poll process) = IsByte process
IsPossible (Call.Start process) = IsByte process
IsPossible (Call.Kill process) = IsByte process
IsPossible (Call.IsRunning process) = IsByte process
IsPossible (Call.Print chunk) = IsChunk chunk
IsPossible (Call.TimerSet timer interval) = IsByte timer × IsWide interval
IsPossible (Call.TimerStop timer) = IsByte timer
IsPossible (Call.TimerReset timer) = IsByte timer
IsPossible (Call.TimerRestart timer) = IsByte timer
IsPossible (Call.TimerExpired timer) = IsByte timer
IsPossible (Call.CallbackSet timer interval) = IsByte timer × IsWide interval
IsPossible (Call.CallbackStop timer) = IsByte timer
IsPossible (Call.MmemAlloc handle n) = IsByte handle × IsWide n
IsPossible (Call.MmemFree handle) = IsByte handle
IsPossible (Call.MmemWrite handle at chunk) = IsByte handle × IsWide at × IsChunk chunk
IsPossible (Call.MmemRead handle at len) = IsByte handle × IsWide at × IsByte len
IsPossible (Call.MmemCopy source target) = IsByte source × IsByte target
IsPossible (Call.HeapAlloc block n) = IsByte block × IsWide n
IsPossible (Call.HeapRealloc block n) = IsByte block × IsWide n
IsPossible (Call.HeapFree block) = IsByte block
IsPossible (Call.HeapWrite block at chunk) = IsByte block × IsWide at × IsChunk chunk
IsPossible (Call.HeapRead block at len) = IsByte block × IsWide at × IsByte len
IsPossible (Call.MembAlloc pool) = IsByte pool
IsPossible (Call.MembFree pool block) = IsByte pool × IsByte block
IsPossible (Call.MembWrite pool block at chunk) = IsByte pool × IsByte block × IsWide at × IsChunk chunk
IsPossible (Call.MembRead pool block at len) = IsByte pool × IsByte block × IsWide at × IsByte len
IsPossible (Call.MembNumFree pool) = IsByte pool
IsPossible (Call.ListAdd list block) = IsByte list × IsByte block
IsPossible (Call.ListPush list block) = IsByte list × IsByte block
IsPossible (Call.ListInsert list prev block) = IsByte list × IsByte prev × IsByte block
IsPossible (Call.ListPop list) = IsByte list
IsPossible (Call.ListChop list) = IsByte list
IsPossible (Call.ListRemove list block) = IsByte list × IsByte block
IsPossible (Call.ListHead list) = IsByte list
IsPossible (Call.ListNext list block) = IsByte list × IsByte block
IsPossible (Call.ListLength list) = IsByte list
IsPossible (Call.PacketRead at len) = IsWide at × IsByte len
IsPossible (Call.PacketSend handle) = IsByte handle
-- these have no more words
IsPossible Call.AllocEvent = ⊤
IsPossible Call.Clock = ⊤
IsPossible Call.Wait = ⊤
IsPossible Call.Exit = ⊤
IsPossible Call.MmemAvail = ⊤
IsPossible Call.HeapStats = ⊤
IsPossible Call.PacketOpen = ⊤
IsPossible Call.PacketDone = ⊤
IsPossible Call.PacketCount = ⊤

-- each of these is one
abbrev pub ArePossible : List Call → Type 0
ArePossible [] = ⊤
ArePossible (call ∷ calls) = IsPossible call × ArePossible calls
