-- Lines, byte by byte.
use Rattle.std.proofs.Common.{◌≡◌, ℕ, zero, suc, ◌≤◌, ◌<◌, Bool, false, List, [], ◌∷◌, ◌++◌, length, take, drop, refl, ap, ◌∙◌, arith, append_assoc, Some, None, length-append, slice_get}
use Rattle.device_core.proofs.Common.{with_bytes, take_all, take_at, append-nil, after_first, SerialLine, next_line, after_line, is_line_end}
use Rattle.circular_buffer.specs.Buffer.{keep_last}

abbrev pub state : List ℕ → Bool → List ℕ → SerialLine
state ring overflow line = record { ring = ring; overflow = overflow; line = line }

-- both have the same next line, and the same bytes after it
pub record ServesAlike (s t : SerialLine) : Type 0 where
  pub line : next_line s ≡ next_line t
  pub rest : after_line s ≡ after_line t

take_take_append : (n : ℕ) (xs ys : List ℕ) → take n (take n xs ++ ys) ≡ take n (xs ++ ys)
take_take_append zero xs ys = refl
take_take_append (suc n) [] ys = refl
take_take_append (suc n) (x ∷ xs) ys = ap (λ l. x ∷ l) (take_take_append n xs ys)

module _ (line : List ℕ) where
  with_bytes_nil : length line ≤ 127 → with_bytes line [] ≡ line
  with_bytes_nil fits = rw append-nil (take_all 127 line fits)

  module _ (byte : ℕ) where
    with_bytes_one_more : (bytes : List ℕ)
        → with_bytes (with_bytes line (byte ∷ [])) bytes ≡ with_bytes line (byte ∷ bytes)
    with_bytes_one_more bytes = take_take_append 127 (line ++ byte ∷ []) bytes ∙ ap (take 127) (append_assoc line (byte ∷ []) bytes)

    pub with_bytes_room : length line < 127 → with_bytes line (byte ∷ []) ≡ line ++ byte ∷ []
    with_bytes_room room = take_all 127 (line ++ byte ∷ []) (omega (arith, length-append line (byte ∷ [])))

    pub with_bytes_full : length line ≡ 127 → with_bytes line (byte ∷ []) ≡ line
    with_bytes_full full = take_at line (byte ∷ []) 127 full

module _ (byte : ℕ) where
  module _ (ring : List ℕ) where
    after_first_past : is_line_end byte ≡ false
        → after_first is_line_end (byte ∷ ring) ≡ after_first is_line_end ring
    after_first_past h = grind arith

    serves_alike_past : (overflow : Bool) (line : List ℕ) → is_line_end byte ≡ false
        → ServesAlike (state ring overflow (with_bytes line (byte ∷ []))) (state (byte ∷ ring) overflow line)
    serves_alike_past overflow line h =
        grind (arith, with_bytes_one_more, after_first_past)

pub keep_last_all : (n : ℕ) (xs : List ℕ) (x : ℕ) → length xs < n → keep_last n (xs ++ x ∷ []) ≡ xs ++ x ∷ []
keep_last_all n xs x room = grind (arith, length-append)

module _ (ring : List ℕ) where
  module _ (line : List ℕ) where
    -- a byte that is no line end goes into the current line
    pub alike_one_more : (kept : List ℕ) (overflow : Bool) (byte : ℕ) (s : SerialLine) → ServesAlike (state ring overflow line) s
        → slice_get ring 0 ≡ Some byte → (byte ≡ 10 → ⊥) → kept ≡ with_bytes line (byte ∷ [])
        → ServesAlike (state (drop 1 ring) overflow kept) s
    alike_one_more kept overflow byte s alike first other is_kept =
        grind (arith, serves_alike_past byte (drop 1 ring) overflow line (grind arith))

    module _ (overflow : Bool) where
      pub answer_at_line_end : (byte : ℕ) (s : SerialLine) → ServesAlike (state ring overflow line) s
          → slice_get ring 0 ≡ Some byte → byte ≡ 10 → length line ≤ 127 → next_line s ≡ Some line
      answer_at_line_end byte s alike first is_end fits =
          let whole : ring ≡ 10 ∷ drop 1 ring = grind arith in
          grind (arith, with_bytes_nil)

      pub rest_at_empty_ring : (s : SerialLine) → ServesAlike (state ring overflow line) s
          → slice_get ring 0 ≡ None → length line ≤ 127 → after_line s ≡ state (drop 1 ring) overflow line
      rest_at_empty_ring s alike empty fits = grind (arith, with_bytes_nil)
