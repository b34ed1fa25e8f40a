-- Which lines a transcript can have.
use Rattle.std.specs.Prelude.{◌≡◌, ◌≤◌, ◌^◌, ℕ, Bool, true, List, ◌++◌, length, codes, nat_lt}
use Rattle.pictures.specs.declared.transcript.line.Ending.{Ending}
use Rattle.pictures.specs.declared.transcript.line.Input.{Input}
use Rattle.pictures.specs.declared.transcript.line.Line.{Line}
use Rattle.pictures.specs.declared.transcript.line.Note.{Note}
use Rattle.pictures.specs.declared.transcript.turn.Turn.{Turn}
use Rattle.pictures.specs.Transcript.Lines.{ending_text, input_text, note_text, turn_text}
use Rattle.pictures.specs.Transcript.Turns.{is_turn}
use Rattle.pictures.specs.Transcript.Words.{is_bytes}

-- the line of a turn: no arrow comes before the one before the call
pub record IsTurnLine (line : List ℕ) (turn : Turn) : Type 0 where
  pub text : line ≡ turn_text turn
  pub form : is_turn turn ≡ true
  pub first : (front rest : List ℕ) → line ≡ front ++ (codes " -> " ++ rest) → length rest ≤ length turn.call.now

-- numbers have 64 bits; bytes arrive as digits
abbrev pub is_input : Input → Bool
is_input (Input.Tick ticks) = nat_lt ticks (2 ^ 64)
is_input (Input.Serial digits) = is_bytes digits.now
is_input (Input.Frame digits) = is_bytes digits.now

-- and go out so
abbrev pub is_note : Note → Bool
is_note (Note.Lost reason) = nat_lt reason (2 ^ 64)
is_note (Note.Sent digits) = is_bytes digits.now

abbrev pub is_ending : Ending → Bool
is_ending Ending.Halt = true
is_ending (Ending.BadLine number) = nat_lt number (2 ^ 64)
is_ending Ending.TooLong = true

unfoldable pub is_line : Line → Bool
is_line (Line.Input input) = is_input input
is_line (Line.Turn turn) = is_turn turn
is_line (Line.Note note) = is_note note
is_line (Line.Ending ending) = is_ending ending

-- the line says this
abbrev pub Says : List ℕ → Line → Type 0
Says line (Line.Input input) = (line ≡ codes "> " ++ input_text input) × (is_input input ≡ true)
Says line (Line.Turn turn) = IsTurnLine line turn
Says line (Line.Note note) = (line ≡ codes "note " ++ note_text note) × (is_note note ≡ true)
Says line (Line.Ending ending) = (line ≡ ending_text ending) × (is_ending ending ≡ true)
