-- What a script read so far gives, whatever follows. Each lemma reads one more byte.
use Rattle.std.proofs.Common.{◌≡◌, ◌≢◌, ◌<◌, ◌≤◌, ◌+◌, ◌-◌, ℕ, suc, List, ◌∷◌, ◌++◌, length, Option, Some, None, if◌then◌else◌, nat_lt, ◌==◌, refl, arith, append_assoc, length-append, eq-eqb, []}
use Rattle.mote_text.proofs.Common.{Input, with_line, read_line, line_limit, script_limit, inputs, read_lines, whole_lines, read_on, append-nil, End, preceded_by, Before}
use Rattle.mote_text.proofs.WholeLines.{inputs_of_short, whole_lines_stay, lines_end_whole}
use Rattle.mote_text.proofs.Bytewise.{inputs_by_bytes}

pub script_limit_is : script_limit ≡ 16_777_216
unfolding script_limit
script_limit_is = refl

-- what every script gives that begins with these bytes
abbrev pub Gives : List ℕ → List Input → End → Type 0
Gives taken earlier end = (rest : List ℕ) → inputs (taken ++ rest) ≡ (earlier, end)

pub start : Before [] [] 1 []
start = grind (arith, inputs_by_bytes)

-- reading on

module _ (number : ℕ) (line : List ℕ) (room byte : ℕ) (rest : List ℕ) where
  read_on_byte : read_on number line (suc room) (byte ∷ rest)
      ≡ (if byte == 10 then with_line number (read_line line) (read_on (number + 1) [] room rest)
      else if nat_lt (length line) line_limit then read_on number (line ++ byte ∷ []) room rest
      else ([], End.BadLine number))
  unfolding read_on
  read_on_byte = refl

  read_on_past_limit : room ≡ 0 → read_on number line room (byte ∷ rest) ≡ ([], End.TooLong)
  unfolding read_on
  read_on_past_limit none = rw none

read_on_end : (number : ℕ) (line : List ℕ) (room : ℕ) → read_on number line room [] ≡ with_line number (read_line line) ([], End.Finished)
unfolding read_on
read_on_end number line room = refl

module _ {taken : List ℕ} {earlier : List Input} {number : ℕ} {line : List ℕ} (byte : ℕ) (before : Before taken earlier number line) where
  abbrev room_after : ℕ
  room_after = script_limit - length (taken ++ byte ∷ [])

  next : length taken < script_limit → (rest : List ℕ) →
      inputs ((taken ++ byte ∷ []) ++ rest) ≡ preceded_by earlier (read_on number line (suc room_after) (byte ∷ rest))
  next room rest = grind (arith, length-append, append_assoc)

  -- a byte of the current line
  pub another_byte : length taken < script_limit → byte ≢ 10 → length line < line_limit →
      Before (taken ++ byte ∷ []) earlier number (line ++ byte ∷ [])
  another_byte room other fits = grind (arith, whole_lines_stay, read_on_byte, next)

  pub line_too_long : length taken < script_limit → byte ≢ 10 → line_limit ≤ length line
      → Gives (taken ++ byte ∷ []) earlier (End.BadLine number)
  line_too_long room other full = grind (arith, read_on_byte, append-nil, next)

  line_ends : (read : Option (Option Input)) → length taken < script_limit → byte ≡ 10 → read_line line ≡ read → (rest : List ℕ) →
      inputs ((taken ++ byte ∷ []) ++ rest) ≡ preceded_by earlier (with_line number read (read_on (number + 1) [] room_after rest))
  line_ends read room is_end says rest = grind (arith, read_on_byte, next)

  whole_at_end : (inputs_so_far : List Input) → length taken < script_limit → byte ≡ 10 →
      ((rest : List ℕ) → inputs ((taken ++ byte ∷ []) ++ rest) ≡ preceded_by inputs_so_far (read_on (number + 1) [] room_after rest)) →
      read_lines 1 End.Finished (whole_lines (taken ++ byte ∷ [])) ≡ (inputs_so_far, End.Finished)
  unfolding read_line
  whole_at_end inputs_so_far room is_end onward =
      let whole = lines_end_whole taken byte (eq-eqb byte 10 is_end) in
      let given = rw (append-nil (taken ++ byte ∷ []), read_on_end (number + 1) [] room_after, append-nil inputs_so_far) at (onward []) in
      grind (arith, inputs_of_short, length-append)

  -- the end of an empty line, or of a comment
  pub line_of_nothing : length taken < script_limit → byte ≡ 10 → read_line line ≡ Some None
      → Before (taken ++ byte ∷ []) earlier (number + 1) []
  line_of_nothing room is_end says =
      let onward = line_ends (Some None) room is_end says in
      grind (arith, whole_at_end)

  pub line_of_input : (input : Input) → length taken < script_limit → byte ≡ 10 → read_line line ≡ Some (Some input) →
      Before (taken ++ byte ∷ []) (earlier ++ input ∷ []) (number + 1) []
  line_of_input input room is_end says =
      let onward : (rest : List ℕ)
      → inputs ((taken ++ byte ∷ []) ++ rest) ≡ preceded_by (earlier ++ input ∷ []) (read_on (number + 1) [] room_after rest) = λ rest.
      rw (append_assoc earlier (input ∷ []) (read_on (number + 1) [] room_after rest).0)
      (line_ends (Some (Some input)) room is_end says rest) in
      grind (arith, whole_at_end)

  pub line_of_no_form : length taken < script_limit → byte ≡ 10 → read_line line ≡ None
      → Gives (taken ++ byte ∷ []) earlier (End.BadLine number)
  line_of_no_form room is_end says = λ rest. rw (append-nil earlier) at (line_ends None room is_end says rest)

  pub script_too_long : script_limit ≤ length taken → Gives (taken ++ byte ∷ []) earlier End.TooLong
  script_too_long full = grind (arith, read_on_past_limit, append-nil, append_assoc)
