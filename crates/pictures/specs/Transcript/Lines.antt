-- The lines of a transcript, and what each says.
use Rattle.std.specs.Prelude.{ℕ, List, ◌++◌, length, take, drop, codes, decimal, bytes_eq, Option, Some, None, option_and_then, option_map, unwrap_or, if◌then◌else◌}
use Rattle.pictures.specs.declared.transcript.line.Ending.{Ending}
use Rattle.pictures.specs.declared.transcript.line.Input.{Input}
use Rattle.pictures.specs.declared.transcript.line.Line.{Line}
use Rattle.pictures.specs.declared.transcript.line.Note.{Note}
use Rattle.pictures.specs.declared.transcript.turn.Origin.{Origin}
use Rattle.pictures.specs.declared.transcript.turn.Turn.{Turn}
use Rattle.pictures.specs.Transcript.Words.{read_number}

-- ---- what a line says

abbrev pub input_text : Input → List ℕ
input_text (Input.Tick ticks) = codes "tick " ++ decimal ticks
input_text (Input.Serial digits) = codes "serial " ++ digits.now
input_text (Input.Frame digits) = codes "frame " ++ digits.now

abbrev pub note_text : Note → List ℕ
note_text (Note.Lost reason) = codes "lost " ++ decimal reason
note_text (Note.Sent digits) = codes "sent " ++ digits.now

abbrev pub ending_text : Ending → List ℕ
ending_text Ending.Halt = codes "halt"
ending_text (Ending.BadLine number) = codes "bad line " ++ decimal number
ending_text Ending.TooLong = codes "too long"

abbrev pub origin_text : Origin → List ℕ
origin_text Origin.Event = codes "event"
origin_text Origin.Synch = codes "synch"
origin_text Origin.Poll = codes "poll"
origin_text Origin.Callback = codes "callback"
origin_text Origin.Answer = codes "answer"

abbrev pub turn_text : Turn → List ℕ
turn_text turn =
    decimal turn.pid ++ codes " " ++ origin_text turn.origin ++ codes " " ++ turn.stimulus.now ++ codes " -> " ++ turn.call.now

abbrev pub line_text : Line → List ℕ
line_text (Line.Input input) = codes "> " ++ input_text input
line_text (Line.Turn turn) = turn_text turn
line_text (Line.Note note) = codes "note " ++ note_text note
line_text (Line.Ending ending) = ending_text ending

-- ---- what a line begins with

-- what follows the word that the line begins with
abbrev pub after_prefix : List ℕ → List ℕ → Option (List ℕ)
after_prefix word line = if bytes_eq (take (length word) line) word then Some (drop (length word) line) else None

-- how a run ended, by its line
abbrev pub ending_in : List ℕ → Option Ending
ending_in line =
    if bytes_eq line (codes "halt") then Some Ending.Halt
    else if bytes_eq line (codes "too long") then Some Ending.TooLong
    else option_map (λ number. Ending.BadLine number) (option_and_then read_number (after_prefix (codes "bad line ") line))

-- ---- the clock

-- the ticks of a line `> tick N`
abbrev pub ticks_in : List ℕ → Option ℕ
ticks_in line = option_and_then read_number (after_prefix (codes "> tick ") line)

-- at any line
abbrev pub ticks_of : List ℕ → ℕ
ticks_of line = unwrap_or (ticks_in line) 0

-- the ticks of an input
abbrev pub ticks_by : Input → Option ℕ
ticks_by (Input.Tick ticks) = Some ticks
ticks_by (Input.Serial digits) = None
ticks_by (Input.Frame digits) = None

-- the same of a line
abbrev pub line_ticks : Line → Option ℕ
line_ticks (Line.Input input) = ticks_by input
line_ticks (Line.Turn turn) = None
line_ticks (Line.Note note) = None
line_ticks (Line.Ending ending) = None
