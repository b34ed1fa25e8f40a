-- The whole lines of a script, byte by byte.
use Rattle.std.proofs.Common.{◌≡◌, ◌<◌, ◌≤◌, ℕ, Bool, true, false, List, ◌∷◌, ◌++◌, length, ◌==◌, refl, ap, arith, []}
use Rattle.mote_text.proofs.Common.{onto_first, slice_split-cons_yes, slice_split-cons_no, read_lines, script_limit, with_last_if, is_line, parts, whole_lines, inputs, take_all, length-slice_split, End}

abbrev without_last : List (List ℕ) → List (List ℕ)
without_last lines = with_last_if (λ last. false) lines

-- the lines among the parts of a script or of a prefix
abbrev pub with_last_line : Bool → List (List ℕ) → List (List ℕ)
with_last_line is_end parts = with_last_if (is_line is_end) parts

without_last_cons : (line : List ℕ) (later : List (List ℕ)) → 0 < length later → without_last (line ∷ later) ≡ line ∷ without_last later
without_last_cons line later some = grind arith

-- a byte that ends no line

without_last_onto_first : (byte : ℕ) (xs ys : List (List ℕ)) → 0 < length xs → 0 < length ys → without_last xs ≡ without_last ys →
    without_last (onto_first byte xs) ≡ without_last (onto_first byte ys)
without_last_onto_first byte xs ys x y same = grind arith

module _ (bytes : List ℕ) where
  pub some_part : 0 < length (parts bytes)
  some_part = grind (arith, length-slice_split)

  -- a script that isn't too long
  pub inputs_of_short : length bytes ≤ script_limit
      → inputs bytes ≡ read_lines 1 End.Finished (with_last_line true (parts bytes))
  unfolding inputs
  inputs_of_short short = grind (arith, take_all, script_limit)

same_after : (first : ℕ) (xs ys : List ℕ) (is_end : Bool) → (first == 10) ≡ is_end → whole_lines xs ≡ whole_lines ys
    → whole_lines (first ∷ xs) ≡ whole_lines (first ∷ ys)
same_after first xs ys is_end test same = grind (arith, without_last_cons, some_part, without_last_onto_first)

pub whole_lines_stay : (bytes : List ℕ) (byte : ℕ) → (byte == 10) ≡ false → whole_lines (bytes ++ byte ∷ []) ≡ whole_lines bytes
whole_lines_stay [] byte other = rw (slice_split-cons_no (λ b. b == 10) byte [] other)
whole_lines_stay (first ∷ bytes) byte other = grind (arith, same_after, whole_lines_stay bytes byte other)

-- a byte that ends a line

onto_first_append : (byte : ℕ) (xs ys : List (List ℕ)) → 0 < length xs → onto_first byte (xs ++ ys) ≡ onto_first byte xs ++ ys
onto_first_append byte xs ys some = grind arith

part_after : (first : ℕ) (xs ys : List ℕ) (last : List (List ℕ)) (is_end : Bool) → (first == 10) ≡ is_end → parts ys ≡ parts xs ++ last →
    parts (first ∷ ys) ≡ parts (first ∷ xs) ++ last
part_after first xs ys last is_end test more = grind (arith, onto_first_append, some_part)

part_ends : (bytes : List ℕ) (byte : ℕ) → (byte == 10) ≡ true → parts (bytes ++ byte ∷ []) ≡ parts bytes ++ [] ∷ []
part_ends [] byte is_end = rw (slice_split-cons_yes (λ b. b == 10) byte [] is_end)
part_ends (first ∷ bytes) byte is_end = grind (arith, part_after, part_ends bytes byte is_end)

all_whole : (lines : List (List ℕ)) → with_last_line true (lines ++ [] ∷ []) ≡ without_last (lines ++ [] ∷ [])
all_whole [] = refl
all_whole (line ∷ []) = refl
all_whole (line ∷ next ∷ lines) = ap (λ later. line ∷ later) (all_whole (next ∷ lines))

pub lines_end_whole : (bytes : List ℕ) (byte : ℕ) → (byte == 10) ≡ true
    → with_last_line true (parts (bytes ++ byte ∷ [])) ≡ whole_lines (bytes ++ byte ∷ [])
lines_end_whole bytes byte is_end = grind (arith, part_ends, all_whole)
