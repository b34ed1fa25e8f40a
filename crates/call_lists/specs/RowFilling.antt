-- A call in which a received value replaces the last word.
use Rattle.std.specs.Prelude.{ℕ, Bool, if◌then◌else◌, min, List, [], take}
use Rattle.arrayvec.specs.ArrayVec.{ArrayVec}
use Rattle.mote_types.specs.declared.call.Call.{Call}
use Rattle.mote_types.specs.declared.event.Payload.{Payload}

-- The number that was received, 0 where none was
abbrev pub number_received : Payload → ℕ
number_received (Payload.Num n) = n
number_received payload = 0

-- the first 64 bytes of the line that was received, none where none was
abbrev pub bytes_received : Payload → List ℕ
bytes_received (Payload.Line line) = take 64 line.items
bytes_received payload = []

abbrev pub last_number : Bool → Payload → ℕ → ℕ
last_number uses_received received word = if uses_received then number_received received else word

-- what is named by a byte: a larger number than 255 counts as 255
abbrev pub last_small : Bool → Payload → ℕ → ℕ
last_small uses_received received word = if uses_received then min (number_received received) 255 else word

abbrev pub last_payload : Bool → Payload → Payload → Payload
last_payload uses_received received word = if uses_received then received else word

abbrev pub last_chunk : Bool → Payload → ArrayVec ℕ → ArrayVec ℕ
last_chunk uses_received received word = if uses_received then record { items = bytes_received received } else word

-- the last word of a call, where it has one
abbrev pub filled : Bool → Payload → Call → Call
filled uses_received received (Call.Post q code payload) = Call.Post q code (last_payload uses_received received payload)
filled uses_received received (Call.Broadcast code payload) = Call.Broadcast code (last_payload uses_received received payload)
filled uses_received received (Call.PostSynch q code payload) = Call.PostSynch q code (last_payload uses_received received payload)
filled uses_received received (Call.Poll q) = Call.Poll (last_small uses_received received q)
filled uses_received received (Call.Start q) = Call.Start (last_small uses_received received q)
filled uses_received received (Call.Kill q) = Call.Kill (last_small uses_received received q)
filled uses_received received (Call.IsRunning q) = Call.IsRunning (last_small uses_received received q)
filled uses_received received Call.AllocEvent = Call.AllocEvent
filled uses_received received (Call.TimerSet timer interval) = Call.TimerSet timer (last_number uses_received received interval)
filled uses_received received (Call.TimerStop timer) = Call.TimerStop (last_small uses_received received timer)
filled uses_received received (Call.TimerReset timer) = Call.TimerReset (last_small uses_received received timer)
filled uses_received received (Call.TimerRestart timer) = Call.TimerRestart (last_small uses_received received timer)
filled uses_received received (Call.TimerExpired timer) = Call.TimerExpired (last_small uses_received received timer)
filled uses_received received (Call.CallbackSet timer interval) = Call.CallbackSet timer (last_number uses_received received interval)
filled uses_received received (Call.CallbackStop timer) = Call.CallbackStop (last_small uses_received received timer)
filled uses_received received Call.Clock = Call.Clock
filled uses_received received (Call.Print bytes) = Call.Print (last_chunk uses_received received bytes)
filled uses_received received Call.Wait = Call.Wait
filled uses_received received Call.Exit = Call.Exit
filled uses_received received (Call.MmemAlloc handle length) = Call.MmemAlloc handle (last_number uses_received received length)
filled uses_received received (Call.MmemFree handle) = Call.MmemFree (last_small uses_received received handle)
filled uses_received received (Call.MmemWrite handle at bytes) = Call.MmemWrite handle at (last_chunk uses_received received bytes)
filled uses_received received (Call.MmemRead handle at length) = Call.MmemRead handle at (last_small uses_received received length)
filled uses_received received (Call.MmemCopy from to) = Call.MmemCopy from (last_small uses_received received to)
filled uses_received received Call.MmemAvail = Call.MmemAvail
filled uses_received received (Call.HeapAlloc block length) = Call.HeapAlloc block (last_number uses_received received length)
filled uses_received received (Call.HeapRealloc block length) = Call.HeapRealloc block (last_number uses_received received length)
filled uses_received received (Call.HeapFree block) = Call.HeapFree (last_small uses_received received block)
filled uses_received received (Call.HeapWrite block at bytes) = Call.HeapWrite block at (last_chunk uses_received received bytes)
filled uses_received received (Call.HeapRead block at length) = Call.HeapRead block at (last_small uses_received received length)
filled uses_received received Call.HeapStats = Call.HeapStats
filled uses_received received (Call.MembAlloc pool) = Call.MembAlloc (last_small uses_received received pool)
filled uses_received received (Call.MembFree pool block) = Call.MembFree pool (last_small uses_received received block)
filled uses_received received (Call.MembWrite pool block at bytes) = Call.MembWrite pool block at (last_chunk uses_received received bytes)
filled uses_received received (Call.MembRead pool block at length) = Call.MembRead pool block at (last_small uses_received received length)
filled uses_received received (Call.MembNumFree pool) = Call.MembNumFree (last_small uses_received received pool)
filled uses_received received (Call.ListAdd list block) = Call.ListAdd list (last_small uses_received received block)
filled uses_received received (Call.ListPush list block) = Call.ListPush list (last_small uses_received received block)
filled uses_received received (Call.ListInsert list previous block) = Call.ListInsert list previous (last_small uses_received received block)
filled uses_received received (Call.ListPop list) = Call.ListPop (last_small uses_received received list)
filled uses_received received (Call.ListChop list) = Call.ListChop (last_small uses_received received list)
filled uses_received received (Call.ListRemove list block) = Call.ListRemove list (last_small uses_received received block)
filled uses_received received (Call.ListHead list) = Call.ListHead (last_small uses_received received list)
filled uses_received received (Call.ListNext list block) = Call.ListNext list (last_small uses_received received block)
filled uses_received received (Call.ListLength list) = Call.ListLength (last_small uses_received received list)
filled uses_received received Call.PacketOpen = Call.PacketOpen
filled uses_received received (Call.PacketRead at length) = Call.PacketRead at (last_small uses_received received length)
filled uses_received received Call.PacketDone = Call.PacketDone
filled uses_received received Call.PacketCount = Call.PacketCount
filled uses_received received (Call.PacketSend handle) = Call.PacketSend (last_small uses_received received handle)
