-- Reading a script byte by byte gives its inputs.
use Rattle.std.proofs.Common.{◌≡◌, ◌<◌, ◌≤◌, ◌+◌, ℕ, zero, suc, Bool, true, false, not, List, ◌∷◌, ◌++◌, length, take, None, if◌then◌else◌, nat_lt, ◌==◌, refl, arith, lt-ltb, le-ltb, ltb-true, ltb-false, append_assoc, length-append, []}
use Rattle.mote_text.proofs.Common.{onto_first, nat_tests, slice_split-cons_yes, slice_split-cons_no, read_on, with_line, read_line, read_lines, line_limit, script_limit, parts, inputs, append-nil, End, Reading}
use Rattle.std.proofs.Math.Seq.{take-nil}
use Rattle.mote_text.proofs.WholeLines.{some_part, with_last_line}

-- the same by lines
-- the parts of a rest whose first line begins with these bytes

abbrev begun : List ℕ → List (List ℕ) → List (List ℕ)
begun line [] = []
begun line (part ∷ later) = (line ++ part) ∷ later

abbrev end_of_all : Bool → End
end_of_all is_too_long = if is_too_long then End.TooLong else End.Finished

abbrev read_parts : ℕ → Bool → List (List ℕ) → Reading
read_parts number is_too_long parts = read_lines number (end_of_all is_too_long) (with_last_line (not is_too_long) parts)

begun_none : (parts : List (List ℕ)) → begun [] parts ≡ parts
begun_none parts = grind arith

module _ (line : List ℕ) where
  begun_onto_first : (byte : ℕ) (parts : List (List ℕ)) → 0 < length parts →
      begun line (onto_first byte parts) ≡ begun (line ++ byte ∷ []) parts
  begun_onto_first byte parts some = grind (arith, append_assoc)

  -- lines and their ends

  too_long_has_no_form : line_limit < length line → read_line line ≡ None
  unfolding read_line
  too_long_has_no_form long = rw (lt-ltb line_limit (length line) long)

module _ (number : ℕ) where
  module _ (line : List ℕ) where
    abbrev read_by_lines : ℕ → List ℕ → Reading
    read_by_lines room rest = read_parts number (nat_lt room (length rest)) (begun line (parts (take room rest)))

    last_line : length line ≤ line_limit →
        read_parts number false (line ∷ []) ≡ with_line number (read_line line) ([], End.Finished)
    unfolding read_line
    last_line fits = grind (arith, nat_tests, lt-ltb)

    cut_line : length line ≤ line_limit → read_parts number true (line ∷ []) ≡ ([], End.TooLong)
    cut_line fits = grind arith

  module _ (is_too_long : Bool) (line : List ℕ) where
    whole_line : (later : List (List ℕ)) → 0 < length later →
        read_parts number is_too_long (line ∷ later) ≡ with_line number (read_line line) (read_parts (number + 1) is_too_long later)
    whole_line later some = grind arith

    too_long_line : (parts : List (List ℕ)) → line_limit < length line → 0 < length parts →
        read_parts number is_too_long (begun line parts) ≡ ([], End.BadLine number)
    too_long_line parts long some = grind (arith, nat_tests, length-append, too_long_has_no_form)

-- one byte more

IsReadByBytes : ℕ → List ℕ → Type 0
IsReadByBytes room rest = (number : ℕ) (line : List ℕ) → length line ≤ line_limit →
    read_by_lines number line room rest ≡ read_on number line room rest

module _ (number : ℕ) (line : List ℕ) (room byte : ℕ) (rest : List ℕ) where
  at_byte : (is_end fits : Bool) → (byte == 10) ≡ is_end → nat_lt (length line) line_limit ≡ fits → IsReadByBytes room rest →
      read_by_lines number line (suc room) (byte ∷ rest) ≡
      (if is_end then with_line number (read_line line) (read_on (number + 1) [] room rest)
      else if fits then read_on number (line ++ byte ∷ []) room rest
      else ([], End.BadLine number))
  unfolding IsReadByBytes
  at_byte true fits is_end test by_bytes =
      grind (arith, nat_tests, slice_split-cons_yes, begun_none, by_bytes, append-nil, whole_line, some_part)
  at_byte false true is_other test by_bytes =
      grind (arith, nat_tests, slice_split-cons_no, ltb-true, begun_onto_first, some_part, by_bytes, length-append)
  at_byte false false is_other test by_bytes =
      grind (arith, nat_tests, slice_split-cons_no, ltb-false, length-append, begun_onto_first, some_part, too_long_line)

by_bytes : (room : ℕ) (rest : List ℕ) → IsReadByBytes room rest
unfolding IsReadByBytes read_on
by_bytes room [] = λ number line fits. rw (take-nil {A = ℕ} room, append-nil line, le-ltb room 0 (omega arith)) (last_line number line fits)
by_bytes zero (byte ∷ rest) =
    λ number line fits. rw (append-nil line, lt-ltb 0 (length (byte ∷ rest)) (omega arith)) (cut_line number line fits)
by_bytes (suc room) (byte ∷ rest) = λ number line fits. at_byte number line room byte rest (byte == 10) _ refl refl (by_bytes room rest)

module _ (bytes : List ℕ) where
  by_lines : inputs bytes ≡ read_by_lines 1 [] script_limit bytes
  unfolding inputs
  by_lines = grind arith

  pub inputs_by_bytes : inputs bytes ≡ read_on 1 [] script_limit bytes
  unfolding IsReadByBytes
  inputs_by_bytes = grind (arith, by_lines, by_bytes, script_limit)
