-- The line of an entry: its words, with one space between each two.
use Rattle.std.specs.Prelude.{List, [], ◌∷◌, ◌++◌, length, map, codes, decimal, if◌then◌else◌, ◌==◌}
use Rattle.std.specs.List.{join_by}
use Rattle.hex.specs.Hex.{encode_lower}
use Rattle.mote_types.specs.Kinds.{Bytes}
use Rattle.mote_types.specs.Codes.{refusal_number}
use Rattle.mote_types.specs.declared.event.Payload.{Payload}
use Rattle.mote_types.specs.declared.event.Stimulus.{Stimulus}
use Rattle.mote_types.specs.declared.event.Origin.{Origin}
use Rattle.mote_types.specs.declared.reply.Reply.{Reply}
use Rattle.mote_types.specs.declared.call.Call.{Call}
use Rattle.mote_types.specs.declared.entry.Input.{Input}
use Rattle.mote_types.specs.declared.entry.Note.{Note}
use Rattle.mote_types.specs.declared.entry.Entry.{Entry}

abbrev pub Word : Type 0
Word = Bytes

-- two lower case digits for each byte, or a dash where there are none
abbrev pub hex : Bytes → Word
hex bytes = if length bytes == 0 then codes "-" else encode_lower bytes

-- `-`, a number, or bytes in hexadecimal after an x
abbrev pub payload_word : Payload → Word
payload_word Payload.Empty = codes "-"
payload_word (Payload.Num n) = decimal n
payload_word (Payload.Line line) = codes "x" ++ encode_lower line.items

abbrev pub origin_word : Origin → Word
origin_word Origin.Event = codes "event"
origin_word Origin.Synch = codes "synch"
origin_word Origin.Poll = codes "poll"
origin_word Origin.Callback = codes "callback"
origin_word Origin.Answer = codes "answer"

abbrev pub reply_words : Reply → List Word
reply_words Reply.Done = codes "done" ∷ []
reply_words (Reply.Refused refusal) = codes "refused" ∷ decimal (refusal_number refusal) ∷ []
reply_words (Reply.Num n) = codes "num" ∷ decimal n ∷ []
reply_words (Reply.Wide n) = codes "wide" ∷ decimal n ∷ []
reply_words (Reply.Flag flag) = codes "flag" ∷ (if flag then codes "true" else codes "false") ∷ []
reply_words (Reply.Bytes chunk) = codes "bytes" ∷ hex chunk.items ∷ []
reply_words (Reply.Stats stats) =
    codes "stats" ∷ map decimal (stats.allocated ∷ stats.overhead ∷ stats.available ∷ stats.footprint ∷ stats.chunks ∷ [])

abbrev pub stimulus_words : Stimulus → List Word
stimulus_words (Stimulus.Event event) = decimal event.code ∷ payload_word event.payload ∷ []
stimulus_words (Stimulus.Answer reply) = reply_words reply
stimulus_words (Stimulus.Callback timer) = decimal timer ∷ []

abbrev pub call_words : Call → List Word
call_words (Call.Post process code payload) = codes "post" ∷ decimal process ∷ decimal code ∷ payload_word payload ∷ []
call_words (Call.Broadcast code payload) = codes "broadcast" ∷ decimal code ∷ payload_word payload ∷ []
call_words (Call.PostSynch process code payload) = codes "post-synch" ∷ decimal process ∷ decimal code ∷ payload_word payload ∷ []
call_words (Call.Poll process) = codes "poll" ∷ decimal process ∷ []
call_words (Call.Start process) = codes "start" ∷ decimal process ∷ []
call_words (Call.Kill process) = codes "kill" ∷ decimal process ∷ []
call_words (Call.IsRunning process) = codes "is-running" ∷ decimal process ∷ []
call_words Call.AllocEvent = codes "alloc-event" ∷ []
call_words Call.Clock = codes "clock" ∷ []
call_words (Call.Print chunk) = codes "print" ∷ hex chunk.items ∷ []
call_words Call.Wait = codes "wait" ∷ []
call_words Call.Exit = codes "exit" ∷ []
call_words (Call.TimerSet timer interval) = codes "timer-set" ∷ decimal timer ∷ decimal interval ∷ []
call_words (Call.TimerStop timer) = codes "timer-stop" ∷ decimal timer ∷ []
call_words (Call.TimerReset timer) = codes "timer-reset" ∷ decimal timer ∷ []
call_words (Call.TimerRestart timer) = codes "timer-restart" ∷ decimal timer ∷ []
call_words (Call.TimerExpired timer) = codes "timer-expired" ∷ decimal timer ∷ []
call_words (Call.CallbackSet timer interval) = codes "callback-set" ∷ decimal timer ∷ decimal interval ∷ []
call_words (Call.CallbackStop timer) = codes "callback-stop" ∷ decimal timer ∷ []
call_words (Call.MmemAlloc handle n) = codes "mmem-alloc" ∷ decimal handle ∷ decimal n ∷ []
call_words (Call.MmemFree handle) = codes "mmem-free" ∷ decimal handle ∷ []
call_words (Call.MmemWrite handle at chunk) = codes "mmem-write" ∷ decimal handle ∷ decimal at ∷ hex chunk.items ∷ []
call_words (Call.MmemRead handle at len) = codes "mmem-read" ∷ decimal handle ∷ decimal at ∷ decimal len ∷ []
call_words (Call.MmemCopy source target) = codes "mmem-copy" ∷ decimal source ∷ decimal target ∷ []
call_words Call.MmemAvail = codes "mmem-avail" ∷ []
call_words (Call.HeapAlloc block n) = codes "heap-alloc" ∷ decimal block ∷ decimal n ∷ []
call_words (Call.HeapRealloc block n) = codes "heap-realloc" ∷ decimal block ∷ decimal n ∷ []
call_words (Call.HeapFree block) = codes "heap-free" ∷ decimal block ∷ []
call_words (Call.HeapWrite block at chunk) = codes "heap-write" ∷ decimal block ∷ decimal at ∷ hex chunk.items ∷ []
call_words (Call.HeapRead block at len) = codes "heap-read" ∷ decimal block ∷ decimal at ∷ decimal len ∷ []
call_words Call.HeapStats = codes "heap-stats" ∷ []
call_words (Call.MembAlloc pool) = codes "memb-alloc" ∷ decimal pool ∷ []
call_words (Call.MembFree pool block) = codes "memb-free" ∷ decimal pool ∷ decimal block ∷ []
call_words (Call.MembWrite pool block at chunk) = codes "memb-write" ∷ decimal pool ∷ decimal block ∷ decimal at ∷ hex chunk.items ∷ []
call_words (Call.MembRead pool block at len) = codes "memb-read" ∷ decimal pool ∷ decimal block ∷ decimal at ∷ decimal len ∷ []
call_words (Call.MembNumFree pool) = codes "memb-num-free" ∷ decimal pool ∷ []
call_words (Call.ListAdd list block) = codes "list-add" ∷ decimal list ∷ decimal block ∷ []
call_words (Call.ListPush list block) = codes "list-push" ∷ decimal list ∷ decimal block ∷ []
call_words (Call.ListInsert list prev block) = codes "list-insert" ∷ decimal list ∷ decimal prev ∷ decimal block ∷ []
call_words (Call.ListPop list) = codes "list-pop" ∷ decimal list ∷ []
call_words (Call.ListChop list) = codes "list-chop" ∷ decimal list ∷ []
call_words (Call.ListRemove list block) = codes "list-remove" ∷ decimal list ∷ decimal block ∷ []
call_words (Call.ListHead list) = codes "list-head" ∷ decimal list ∷ []
call_words (Call.ListNext list block) = codes "list-next" ∷ decimal list ∷ decimal block ∷ []
call_words (Call.ListLength list) = codes "list-length" ∷ decimal list ∷ []
call_words Call.PacketOpen = codes "packet-open" ∷ []
call_words (Call.PacketRead at len) = codes "packet-read" ∷ decimal at ∷ decimal len ∷ []
call_words Call.PacketDone = codes "packet-done" ∷ []
call_words Call.PacketCount = codes "packet-count" ∷ []
call_words (Call.PacketSend handle) = codes "packet-send" ∷ decimal handle ∷ []

abbrev pub entry_words : Entry → List Word
entry_words (Entry.Input (Input.Tick n)) = codes ">" ∷ codes "tick" ∷ decimal n ∷ []
entry_words (Entry.Input (Input.Serial bytes)) = codes ">" ∷ codes "serial" ∷ hex bytes.items ∷ []
entry_words (Entry.Input (Input.Frame bytes)) = codes ">" ∷ codes "frame" ∷ hex bytes.items ∷ []
entry_words (Entry.Turn pid origin stimulus call) =
    decimal pid.0 ∷ origin_word origin ∷ (stimulus_words stimulus ++ codes "->" ∷ call_words call)
entry_words (Entry.Note (Note.Lost refusal)) = codes "note" ∷ codes "lost" ∷ decimal (refusal_number refusal) ∷ []
entry_words (Entry.Note (Note.Sent bytes)) = codes "note" ∷ codes "sent" ∷ hex bytes.items ∷ []
entry_words Entry.Halt = codes "halt" ∷ []

unfoldable pub line_of : List Word → Bytes
line_of words = join_by (λ word. word) (codes " ") words ++ codes "\n"

unfoldable pub entry_line : Entry → Bytes
entry_line entry = line_of (entry_words entry)
