-- The lines of a network's transcript, and how each says what it says.
use Rattle.std.specs.Prelude.{ℕ, Bool, true, false, ◌&&◌, List, ◌++◌, length, codes, decimal, Option, Some, None, option_and_then, option_map, if◌then◌else◌, nat_le}
use Rattle.pictures.specs.Transcript.Forms.{is_line}
use Rattle.pictures.specs.Transcript.Lines.{after_prefix, ending_text, line_text}
use Rattle.pictures.specs.Transcript.Words.{read_number}
use Rattle.pictures.specs.declared.transcript.line.Ending.{Ending}
use Rattle.pictures.specs.declared.transcript.line.Input.{Input}
use Rattle.pictures.specs.declared.transcript.line.Line.{Line}
use Rattle.pictures.specs.declared.transcript.line.Note.{Note}
use Rattle.pictures.specs.declared.network.line.NetworkLine.{NetworkLine}

-- two motes with a space between them
abbrev pub two_motes_text : ℕ → ℕ → List ℕ
two_motes_text from to = decimal from ++ codes " " ++ decimal to

-- what a line says, as it says it
abbrev pub network_line_text : NetworkLine → List ℕ
network_line_text (NetworkLine.Clock moment) = codes "= " ++ decimal moment
network_line_text (NetworkLine.Mote mote line) = decimal mote ++ codes " " ++ line_text line
network_line_text (NetworkLine.Lost from to) = codes "lost " ++ two_motes_text from to
network_line_text (NetworkLine.Full from to) = codes "full " ++ two_motes_text from to
network_line_text (NetworkLine.Missed from to) = codes "missed " ++ two_motes_text from to
network_line_text (NetworkLine.Unheard mote) = codes "missed - " ++ decimal mote
network_line_text (NetworkLine.Ending ending) = ending_text ending

-- the line of a clock: `= 14`
abbrev pub clock_in : List ℕ → Option NetworkLine
clock_in line = option_map (λ moment. NetworkLine.Clock moment) (option_and_then read_number (after_prefix (codes "= ") line))

-- motes have the numbers 1, 2, ..
abbrev pub is_mote : ℕ → Bool
is_mote number = nat_le 1 number

abbrev pub if_mote : ℕ → Option ℕ
if_mote number = if is_mote number then Some number else None

-- the mote of the number that is written so
abbrev pub mote_in : List ℕ → Option ℕ
mote_in word = option_and_then if_mote (read_number word)

-- the digits of at most 127 bytes
abbrev pub is_short : List ℕ → Bool
is_short digits = nat_le (length digits) 254

abbrev pub is_input_of_mote : Input → Bool
is_input_of_mote (Input.Tick ticks) = true
is_input_of_mote (Input.Serial digits) = true
is_input_of_mote (Input.Frame digits) = is_short digits.now

abbrev pub is_note_of_mote : Note → Bool
is_note_of_mote (Note.Lost reason) = true
is_note_of_mote (Note.Sent digits) = is_short digits.now

-- a script is malformed or too long for the network, not for a mote
abbrev pub is_ending_of_mote : Ending → Bool
is_ending_of_mote Ending.Halt = true
is_ending_of_mote (Ending.BadLine number) = false
is_ending_of_mote Ending.TooLong = false

-- a mote of a network has such a line
abbrev pub is_of_mote : Line → Bool
is_of_mote (Line.Input input) = is_input_of_mote input
is_of_mote (Line.Turn turn) = true
is_of_mote (Line.Note note) = is_note_of_mote note
is_of_mote (Line.Ending ending) = is_ending_of_mote ending

-- a network has such a line
abbrev pub is_network_line : NetworkLine → Bool
is_network_line (NetworkLine.Clock moment) = true
is_network_line (NetworkLine.Mote mote line) = is_mote mote && is_line line && is_of_mote line
is_network_line (NetworkLine.Lost from to) = is_mote from && is_mote to
is_network_line (NetworkLine.Full from to) = is_mote from && is_mote to
is_network_line (NetworkLine.Missed from to) = is_mote from && is_mote to
is_network_line (NetworkLine.Unheard mote) = is_mote mote
is_network_line (NetworkLine.Ending ending) = true
