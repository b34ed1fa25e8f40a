-- The capture of a run: the frames that were sent, in the format of libpcap.
use Rattle.std.specs.Prelude.{ℕ, ◌*◌, ◌/◌, ◌%◌, Bool, List, [], ◌∷◌, ◌++◌, length, take, flat_map, Option, Some, None, nat_le}
use Rattle.std.specs.Int.{to_le_bytes}
use mir.Syntax.{w16, w32}
use Rattle.pictures.specs.Words.{bytes_in}
use Rattle.pictures.specs.declared.transcript.line.Line.{Line}
use Rattle.pictures.specs.declared.transcript.line.Note.{Note}
use Rattle.pictures.specs.declared.network.capture.Sent.{Sent}
use Rattle.pictures.specs.declared.network.line.NetworkLine.{NetworkLine}

-- ---- the format

-- the magic number of times in microseconds, version 2.4, two reserved words, frames of at most 127 bytes, and the link type: IEEE 802.15.4
-- without the check sequence. The low byte of each comes first
unfoldable pub global_header : List ℕ
global_header =
    to_le_bytes w32 2712847316 ++ to_le_bytes w16 2 ++ to_le_bytes w16 4 ++ to_le_bytes w32 0 ++ to_le_bytes w32 0
    ++ to_le_bytes w32 127 ++ to_le_bytes w32 230

-- when a frame was sent, by its tick and the number of ticks in a second: the second, and the whole microseconds in it
unfoldable pub moment_of : ℕ → ℕ → List ℕ
moment_of clock_second tick = to_le_bytes w32 (tick / clock_second) ++ to_le_bytes w32 (tick % clock_second * 1000000 / clock_second)

-- the number of its bytes, as captured and as sent
unfoldable pub lengths_of : ℕ → List ℕ
lengths_of bytes = to_le_bytes w32 bytes ++ to_le_bytes w32 bytes

abbrev pub record_of : ℕ → ℕ → List ℕ → List ℕ
record_of clock_second tick frame = moment_of clock_second tick ++ lengths_of (length frame) ++ frame

-- its second doesn't fit 32 bits
abbrev pub is_late : ℕ → ℕ → Bool
is_late clock_second tick = nat_le 4294967296 (tick / clock_second)

-- ---- the frames of a run

-- the clock after a line
abbrev pub clock_after : ℕ → NetworkLine → ℕ
clock_after clock (NetworkLine.Clock moment) = moment
clock_after clock (NetworkLine.Mote mote line) = clock
clock_after clock (NetworkLine.Lost from to) = clock
clock_after clock (NetworkLine.Full from to) = clock
clock_after clock (NetworkLine.Missed from to) = clock
clock_after clock (NetworkLine.Unheard mote) = clock
clock_after clock (NetworkLine.Ending ending) = clock

abbrev pub sent_in_note : ℕ → Note → Option Sent
sent_in_note clock (Note.Lost reason) = None
sent_in_note clock (Note.Sent digits) = Some (record { clock = clock; digits = digits })

abbrev pub sent_in_line : ℕ → Line → Option Sent
sent_in_line clock (Line.Input input) = None
sent_in_line clock (Line.Turn turn) = None
sent_in_line clock (Line.Note note) = sent_in_note clock note
sent_in_line clock (Line.Ending ending) = None

-- the frame that was sent, as a line at that clock says: `1 note sent 0a0b`
abbrev pub sent_in : ℕ → NetworkLine → Option Sent
sent_in clock (NetworkLine.Clock moment) = None
sent_in clock (NetworkLine.Mote mote line) = sent_in_line clock line
sent_in clock (NetworkLine.Lost from to) = None
sent_in clock (NetworkLine.Full from to) = None
sent_in clock (NetworkLine.Missed from to) = None
sent_in clock (NetworkLine.Unheard mote) = None
sent_in clock (NetworkLine.Ending ending) = None

abbrev pub with_sent : Option Sent → List Sent → List Sent
with_sent None later = later
with_sent (Some sent) later = sent ∷ later

-- the frames that were sent, as these lines say from that clock on
abbrev pub sends : ℕ → List NetworkLine → List Sent
sends clock [] = []
sends clock (line ∷ lines) = with_sent (sent_in clock line) (sends (clock_after clock line) lines)

-- ---- the capture: no frame has more than 127 bytes

abbrev pub is_sent_late : ℕ → Sent → Bool
is_sent_late clock_second sent = is_late clock_second sent.clock

abbrev pub sent_record : ℕ → Sent → List ℕ
sent_record clock_second sent = record_of clock_second sent.clock (take 127 (bytes_in sent.digits.now))

abbrev pub pcap_with : ℕ → List Sent → List ℕ
pcap_with clock_second sent = global_header ++ flat_map (sent_record clock_second) sent

-- the capture of a run whose transcript has these lines, and whose seconds have this number of ticks
abbrev pub pcap_of : ℕ → List NetworkLine → List ℕ
pcap_of clock_second lines = pcap_with clock_second (sends 0 lines)
