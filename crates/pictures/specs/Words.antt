-- The words for what a transcript's lines say.
use Rattle.std.specs.Prelude.{ℕ, ◌/◌, ◌%◌, ◌<◌, ◌≡◌, ◌≢◌, ◌⊎◌, Bool, false, ◌||◌, ◌&&◌, List, [], ◌∷◌, ◌++◌, length, get_or, take, flat_map, bytes_eq, codes, decimal, encode_utf8, nat_le, nat_lt, ◌==◌, if◌then◌else◌, Option, Some, None, Result, Ok, Err}
use Rattle.std.specs.Fmt.{digit_glyph}
use Rattle.std.specs.List.{after_first, before_first, list_all, position_or_len}
use Rattle.hex.specs.Hex.{decode_of}
use Rattle.pictures.specs.Transcript.Lines.{after_prefix}
use Rattle.pictures.specs.declared.transcript.line.Ending.{Ending}
use Rattle.pictures.specs.declared.transcript.line.Input.{Input}
use Rattle.pictures.specs.declared.transcript.line.Note.{Note}
use Rattle.pictures.specs.declared.transcript.turn.Origin.{Origin}
use Rattle.pictures.specs.declared.transcript.turn.Turn.{Turn}

-- ---- bytes

-- signs that are no ASCII: a space that no viewer drops, quotation marks, a line's end, a carriage return, three dots, and a cross
abbrev pub space : List ℕ
space = 194 ∷ 160 ∷ []

abbrev pub opening : List ℕ
opening = 226 ∷ 128 ∷ 156 ∷ []

abbrev pub closing : List ℕ
closing = 226 ∷ 128 ∷ 157 ∷ []

abbrev pub line_end : List ℕ
line_end = 226 ∷ 143 ∷ 142 ∷ []

abbrev pub carriage_return : List ℕ
carriage_return = 226 ∷ 144 ∷ 141 ∷ []

abbrev pub dots : List ℕ
dots = 226 ∷ 128 ∷ 166 ∷ []

abbrev pub cross : List ℕ
cross = 226 ∷ 156 ∷ 151 ∷ []

-- a byte of a text
abbrev pub is_text_byte : ℕ → Bool
is_text_byte byte = nat_le 32 byte && nat_le byte 126 || byte == 10 || byte == 13

abbrev pub are_text : List ℕ → Bool
are_text bytes = nat_lt 0 (length bytes) && list_all is_text_byte bytes

abbrev pub text_byte : ℕ → List ℕ
text_byte byte = if byte == 10 then line_end else if byte == 13 then carriage_return else encode_utf8 byte

-- at most n of the bytes, as text in quotation marks
abbrev pub quoted : ℕ → List ℕ → List ℕ
quoted most bytes = opening ++ flat_map text_byte (take most bytes) ++ closing

-- eight of them at most, each as two digits and a space
abbrev pub digit_pair : ℕ → List ℕ
digit_pair byte = digit_glyph false (byte / 16) ∷ digit_glyph false (byte % 16) ∷ 32 ∷ []

abbrev pub numbered : List ℕ → List ℕ
numbered bytes = flat_map digit_pair (take 8 bytes)

-- the number of bytes, where not all are shown, or there are none
abbrev pub count_words : ℕ → ℕ → List ℕ
count_words most count = if nat_lt most count || count == 0 then dots ++ codes " " ++ decimal count ++ codes " bytes" else []

-- as text of at most n bytes where they are text, otherwise as numbers
abbrev pub shown_bytes : ℕ → List ℕ → List ℕ
shown_bytes most bytes =
    if are_text bytes then quoted most bytes ++ count_words most (length bytes) else numbered bytes ++ count_words 8 (length bytes)

abbrev pub bytes_or_none : {E : Type 0} → Result (List ℕ) E → List ℕ
bytes_or_none (Ok bytes) = bytes
bytes_or_none (Err error) = []

-- the bytes of these digits, in hex; none where they are no digits
abbrev pub bytes_in : List ℕ → List ℕ
bytes_in digits = bytes_or_none (decode_of digits)

-- of a print 48 bytes are shown, otherwise 24
abbrev pub printed_words : List ℕ → List ℕ
printed_words digits = shown_bytes 48 (bytes_in digits)

abbrev pub bytes_words : List ℕ → List ℕ
bytes_words digits = shown_bytes 24 (bytes_in digits)

-- ---- what a process received

-- what an event carries, with a space before it
abbrev pub payload_by : List ℕ → Option (List ℕ) → List ℕ
payload_by payload (Some digits) = codes " " ++ bytes_words digits
payload_by payload None = if bytes_eq payload (codes "-") then [] else codes " " ++ payload

abbrev pub payload_words : List ℕ → List ℕ
payload_words payload = payload_by payload (after_prefix (codes "x") payload)

-- the name of an event, by its code; nothing where it has none
abbrev pub event_name : List ℕ → List ℕ
event_name code =
    if bytes_eq code (codes "129") then codes "INIT"
    else if bytes_eq code (codes "130") then codes "POLL"
    else if bytes_eq code (codes "131") then codes "EXIT"
    else if bytes_eq code (codes "133") then codes "CONTINUE"
    else if bytes_eq code (codes "134") then codes "MSG"
    else if bytes_eq code (codes "135") then codes "EXITED"
    else if bytes_eq code (codes "136") then codes "TIMER"
    else if bytes_eq code (codes "138") then codes "LINE"
    else if bytes_eq code (codes "139") then codes "PACKET of"
    else []

-- one that has no name is named by its code
abbrev pub event_words : List ℕ → List ℕ
event_words code = if length (event_name code) == 0 then codes "event " ++ code else event_name code

-- an event by its name, and what it carries
abbrev pub is_space : ℕ → Bool
is_space byte = byte == 32

abbrev pub event_stimulus : List ℕ → List ℕ
event_stimulus words =
    if nat_lt (position_or_len is_space words) (length words)
    then event_words (before_first is_space words) ++ payload_words (after_first is_space words)
    else event_words words

-- a reply is shown with its call
abbrev pub stimulus_by : Origin → List ℕ → List ℕ
stimulus_by Origin.Answer words = []
stimulus_by Origin.Callback words = codes "callback " ++ words
stimulus_by Origin.Event words = event_stimulus words
stimulus_by Origin.Synch words = event_stimulus words
stimulus_by Origin.Poll words = event_stimulus words

abbrev pub stimulus_words : Turn → List ℕ
stimulus_words turn = stimulus_by turn.origin turn.stimulus.now

-- ---- replies

-- why a call is refused, by the number of the refusal
abbrev pub reason : List ℕ → List ℕ
reason number =
    if bytes_eq number (codes "1") then codes "queue full"
    else if bytes_eq number (codes "2") then codes "not running"
    else if bytes_eq number (codes "3") then codes "already"
    else if bytes_eq number (codes "4") then codes "busy"
    else if bytes_eq number (codes "5") then codes "reserved code"
    else if bytes_eq number (codes "6") then codes "no number left"
    else if bytes_eq number (codes "7") then codes "bad name"
    else if bytes_eq number (codes "8") then codes "in use"
    else if bytes_eq number (codes "9") then codes "not live"
    else if bytes_eq number (codes "10") then codes "empty"
    else if bytes_eq number (codes "11") then codes "bad range"
    else if bytes_eq number (codes "12") then codes "no room"
    else if bytes_eq number (codes "13") then codes "pool full"
    else if bytes_eq number (codes "14") then codes "linked"
    else if bytes_eq number (codes "15") then codes "not in list"
    else if bytes_eq number (codes "16") then codes "no frame"
    else if bytes_eq number (codes "17") then codes "not receiver"
    else if bytes_eq number (codes "18") then codes "over quota"
    else codes "refused"

abbrev pub value_words : List ℕ → List ℕ → List ℕ
value_words kind value = space ++ space ++ codes "=" ++ space ++ (if bytes_eq kind (codes "bytes") then bytes_words value else value)

abbrev pub reply_by : List ℕ → Option (List ℕ) → List ℕ
reply_by reply (Some number) = space ++ space ++ cross ++ codes " " ++ reason number ++ codes " (" ++ number ++ codes ")"
reply_by reply None =
    if nat_lt (position_or_len is_space reply) (length reply)
    then value_words (before_first is_space reply) (after_first is_space reply)
    else []

-- after its call: a refusal by its reason, a value, and nothing where the call was done
abbrev pub reply_words : List ℕ → List ℕ
reply_words reply = reply_by reply (after_prefix (codes "refused ") reply)

-- ---- calls

-- calls whose last word is bytes that go to memory, and those whose last word is what an event carries
abbrev pub ends_in_bytes : List ℕ → Bool
ends_in_bytes word = bytes_eq word (codes "mmem-write") || bytes_eq word (codes "heap-write") || bytes_eq word (codes "memb-write")

abbrev pub ends_in_payload : List ℕ → Bool
ends_in_payload word = bytes_eq word (codes "post") || bytes_eq word (codes "post-synch") || bytes_eq word (codes "broadcast")

-- the last word of a call whose name is this one
abbrev pub last_words : List ℕ → List ℕ → List ℕ
last_words name last =
    if ends_in_payload name then payload_words last
    else codes " " ++ (if bytes_eq name (codes "print") then printed_words last else if ends_in_bytes name then bytes_words last else last)

abbrev pub call_by : List ℕ → List ℕ → List ℕ
call_by front last = front ++ last_words (before_first is_space front) last

abbrev pub HasNoSpace : List ℕ → Type 0
HasNoSpace words = (index : ℕ) → index < length words → get_or words index 0 ≢ 32

-- the words of a call are these: its own, and bytes as they are shown; the last word is the one after the last space
abbrev pub AreCallWords : List ℕ → List ℕ → Type 0
AreCallWords call words =
    (HasNoSpace call × (words ≡ call))
    ⊎ ((front : List ℕ) × (last : List ℕ) × (call ≡ front ++ 32 ∷ last) × HasNoSpace last × (words ≡ call_by front last))

-- ---- inputs, notes, and how a run ended

abbrev pub input_words : Input → List ℕ
input_words (Input.Tick ticks) = codes "tick " ++ decimal ticks
input_words (Input.Serial digits) = codes "serial " ++ bytes_words digits.now
input_words (Input.Frame digits) = codes "frame of " ++ decimal (length digits.now / 2) ++ codes ": " ++ bytes_words digits.now

abbrev pub no_room_words : ℕ → List ℕ
no_room_words number = codes "no room in managed memory (" ++ decimal number ++ codes ")"

-- the number of the refusal is 1 where eight frames are held
abbrev pub lost_reason : ℕ → List ℕ
lost_reason number = if number == 1 then codes "8 are held (1)" else no_room_words number

abbrev pub lost_front : List ℕ
lost_front = cross ++ codes " the frame is lost: "

abbrev pub lost_words : ℕ → List ℕ
lost_words number = lost_front ++ lost_reason number

abbrev pub note_words : Note → List ℕ
note_words (Note.Lost number) = lost_words number
note_words (Note.Sent digits) = codes "sent " ++ bytes_words digits.now

abbrev pub ending_words : Ending → List ℕ
ending_words Ending.Halt = codes "halt: 10,000 turns and rounds in one input"
ending_words (Ending.BadLine number) = codes "bad line " ++ decimal number ++ codes ": the script ends here"
ending_words Ending.TooLong = codes "too long: the script has more than 16,777,216 bytes"
