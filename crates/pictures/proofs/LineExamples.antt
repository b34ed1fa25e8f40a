-- Examples: what small lines say, and what they don't.
use Rattle.std.proofs.Common.{◌≡◌, ℕ, List, [], ◌∷◌, map, true, false, codes, Some, None, refl, ap}
use Rattle.std.specs.Fmt.{digits}
use Rattle.pictures.specs.declared.transcript.line.Ending.{Ending}
use Rattle.pictures.specs.declared.transcript.line.Input.{Input}
use Rattle.pictures.specs.declared.transcript.line.Line.{Line}
use Rattle.pictures.specs.declared.transcript.line.Note.{Note}
use Rattle.pictures.specs.declared.transcript.turn.Origin.{Origin}
use Rattle.pictures.specs.declared.transcript.turn.Turn.{Turn}
use Rattle.pictures.specs.Transcript.Forms.{is_line}
use Rattle.pictures.specs.Transcript.Lines.{line_text, ticks_in, ticks_of}
use Rattle.pictures.specs.Transcript.Quiet.{ends_script, shows_call}
use Rattle.pictures.specs.Transcript.Turns.{is_call, is_reply, is_stimulus, is_turn, memory_forms, plain_forms, pool_forms}
use Rattle.pictures.specs.Transcript.Words.{is_bytes, is_payload, read_number}
use denote.Ref.{Bor}

-- a number that is too large, and a needless zero
ticks : map ticks_in (codes "> tick 9" ∷ codes "> tick 18446744073709551616" ∷ codes "> tick 09" ∷ []) ≡ Some 9 ∷ None ∷ None ∷ []
ticks = refl

-- another input, and no bracket
ticks_by : map ticks_of (codes "> tick 18446744073709551615" ∷ codes "> serial 09" ∷ codes "tick 9" ∷ [])
    ≡ 18446744073709551615 ∷ 0 ∷ 0 ∷ []
ticks_by = refl

numbers : map read_number (codes "" ∷ codes "0" ∷ []) ≡ None ∷ Some 0 ∷ []
numbers = refl

-- lower case, upper case, half a byte, no bytes, no word
bytes : map is_bytes (codes "0aff" ∷ codes "0A" ∷ codes "0aa" ∷ codes "-" ∷ codes "" ∷ []) ≡ true ∷ false ∷ false ∷ true ∷ false ∷ []
bytes = refl

-- an empty line, only bytes, a number
payloads : map is_payload (codes "x" ∷ codes "0a" ∷ codes "10" ∷ []) ≡ true ∷ false ∷ true ∷ []
payloads = refl

lines : map line_text (Line.Note (Note.Lost 12) ∷ Line.Ending (Ending.BadLine 7) ∷ Line.Input (Input.Tick 10) ∷ [])
    ≡ codes "note lost 12" ∷ codes "bad line 7" ∷ codes "> tick 10" ∷ []
unfolding digits
lines = refl

-- too few words, no such call, two spaces
calls : map is_call (codes "timer-set 0 10" ∷ codes "timer-set 0" ∷ codes "timer" ∷ codes "poll  4" ∷ [])
    ≡ true ∷ false ∷ false ∷ false ∷ []
unfolding plain_forms memory_forms pool_forms
calls = refl

replies : map is_reply (codes "flag true" ∷ codes "flag 1" ∷ []) ≡ true ∷ false ∷ []
replies = refl

stimuli : map (λ origin. is_stimulus origin (codes "138 x0a")) (Origin.Event ∷ Origin.Callback ∷ []) ≡ true ∷ false ∷ []
stimuli = refl

shown : map shows_call (codes "print 6f" ∷ codes "wait" ∷ []) ≡ true ∷ false ∷ []
shown = refl

ends : map ends_script (codes "bad line 7" ∷ codes "halt" ∷ []) ≡ true ∷ false ∷ []
ends = refl

an_end : is_line (Line.Ending Ending.Halt) ≡ true
unfolding is_line
an_end = refl

-- 19 is the last process
no_process : (turn : Turn) → turn.pid ≡ 20 → is_turn turn ≡ false
unfolding is_turn
no_process turn is = cc

module _ (digits : Bor (List ℕ)) where
  -- bytes arrive as pairs of digits; an end is always one
  half_a_byte_of_a_line : digits.now ≡ codes "0" → is_line (Line.Input (Input.Serial digits)) ≡ false
  unfolding is_line
  half_a_byte_of_a_line half = ap is_bytes half

  a_byte_sent : digits.now ≡ codes "0a" → is_line (Line.Note (Note.Sent digits)) ≡ true
  unfolding is_line
  a_byte_sent whole = ap is_bytes whole
