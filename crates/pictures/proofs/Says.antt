-- What says nothing: texts that aren't read.
use Rattle.std.proofs.Common.{◌≡◌, ◌∙◌, ◌<◌, ◌^◌, ◌==◌, ℕ, true, false, List, ◌++◌, append_assoc, codes, decimal, get_or, Some, None, refl, sym, ap, arith}
use Rattle.std.proofs.lemmas.Bool.{eqb-false, ltb-true, true≢false}
use Rattle.std.proofs.lemmas.Fmt.{decimal_nonempty}
use Rattle.std.proofs.lemmas.List.{append_cancel_left, get_or_append_left}
use Rattle.pictures.specs.Transcript.Code.{is_input_text, is_note_text}
use Rattle.pictures.specs.Transcript.Forms.{IsTurnLine, Says, is_ending, is_input, is_note}
use Rattle.pictures.specs.Transcript.Lines.{ending_in, ending_text, input_text, note_text, origin_text}
use Rattle.pictures.specs.declared.transcript.line.Ending.{Ending}
use Rattle.pictures.specs.declared.transcript.line.Input.{Input}
use Rattle.pictures.specs.declared.transcript.line.Line.{Line}
use Rattle.pictures.specs.declared.transcript.line.Note.{Note}
use Rattle.pictures.specs.declared.transcript.turn.Turn.{Turn}
use Rattle.pictures.proofs.ReadNumbers.{not_in_decimal, read_decimal}
use Rattle.pictures.proofs.TurnParts.{is_application}

input_read : (input : Input) → is_input input ≡ true → is_input_text (input_text input) ≡ true
input_read (Input.Tick ticks) is = rw (read_decimal ticks (ltb-true ticks (2 ^ 64) is)) refl
input_read (Input.Serial digits) is = is
input_read (Input.Frame digits) is = is

note_read : (note : Note) → is_note note ≡ true → is_note_text (note_text note) ≡ true
note_read (Note.Lost reason) is = rw (read_decimal reason (ltb-true reason (2 ^ 64) is)) refl
note_read (Note.Sent digits) is = is

ending_read : (ending : Ending) → is_ending ending ≡ true → ending_in (ending_text ending) ≡ Some ending
ending_read Ending.Halt is = refl
ending_read (Ending.BadLine number) is = rw (read_decimal number (ltb-true number (2 ^ 64) is)) refl
ending_read Ending.TooLong is = refl

-- a line begins with one byte
begins : {one other : List ℕ} → one ≡ other → get_or one 0 0 ≡ get_or other 0 0
begins same = ap (λ text. get_or text 0 0) same

apart : {one other : List ℕ} → one ≡ other → (get_or one 0 0 == get_or other 0 0) ≡ false → ⊥
apart {one} {other} same differs = eqb-false (get_or one 0 0) (get_or other 0 0) differs (begins same)

-- a turn with a digit
begins_turn : (line : List ℕ) (turn : Turn) → IsTurnLine line turn → 57 < get_or line 0 0 → ⊥
begins_turn line turn is more =
    let small : turn.pid < 2 ^ 64 = omega (arith, is_application is) in
    let after = origin_text turn.origin ++ (codes " " ++ (turn.stimulus.now ++ (codes " -> " ++ turn.call.now))) in
    let whole : line ≡ decimal turn.pid ++ (codes " " ++ after) = is.text ∙ simp append_assoc in
    let first = begins whole ∙ get_or_append_left (decimal turn.pid) (codes " " ++ after) 0 0 (decimal_nonempty turn.pid small) in
    not_in_decimal turn.pid small (get_or line 0 0) (λ is. omega (arith, is, more)) 0 (decimal_nonempty turn.pid small) (sym first)

pub no_input : (text : List ℕ) → is_input_text text ≡ false → (read : Line) → Says (codes "> " ++ text) read → ⊥
no_input text test (Line.Input input) says =
    let same = append_cancel_left (codes "> ") text (input_text input) says.0 in
    true≢false (sym (ap is_input_text same ∙ input_read input says.1) ∙ test)
no_input text test (Line.Turn turn) says = let more : 57 < 62 = omega arith in begins_turn (codes "> " ++ text) turn says more
no_input text test (Line.Note note) says = apart says.0 refl
no_input text test (Line.Ending Ending.Halt) says = apart says.0 refl
no_input text test (Line.Ending (Ending.BadLine number)) says = apart says.0 refl
no_input text test (Line.Ending Ending.TooLong) says = apart says.0 refl

pub no_note : (text : List ℕ) → is_note_text text ≡ false → (read : Line) → Says (codes "note " ++ text) read → ⊥
no_note text test (Line.Input input) says = apart says.0 refl
no_note text test (Line.Turn turn) says = let more : 57 < 110 = omega arith in begins_turn (codes "note " ++ text) turn says more
no_note text test (Line.Note note) says =
    let same = append_cancel_left (codes "note ") text (note_text note) says.0 in
    true≢false (sym (ap is_note_text same ∙ note_read note says.1) ∙ test)
no_note text test (Line.Ending Ending.Halt) says = apart says.0 refl
no_note text test (Line.Ending (Ending.BadLine number)) says = apart says.0 refl
no_note text test (Line.Ending Ending.TooLong) says = apart says.0 refl

pub no_line : (line : List ℕ) → ((rest : List ℕ) → line ≡ codes "> " ++ rest → ⊥) → ((rest : List ℕ) → line ≡ codes "note " ++ rest → ⊥)
    → ((turn : Turn) → IsTurnLine line turn → ⊥) → None ≡ ending_in line → (read : Line) → Says line read → ⊥
no_line line input note turn ending (Line.Input found) says = input (input_text found) says.0
no_line line input note turn ending (Line.Turn found) says = turn found says
no_line line input note turn ending (Line.Note found) says = note (note_text found) says.0
no_line line input note turn ending (Line.Ending found) says =
    let read : None ≡ Some found = ending ∙ ap ending_in says.0 ∙ ending_read found says.1 in absurd (cc)
