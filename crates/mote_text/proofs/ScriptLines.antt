-- The lines of a script byte by byte: its first line ends with its first newline.
use Rattle.std.proofs.Common.{◌≡◌, ◌+◌, ◌-◌, ◌<◌, ◌==◌, ℕ, zero, suc, Bool, true, false, List, [], ◌∷◌, length, take, drop, if◌then◌else◌, nat_lt, refl, ap, sym, ◌∙◌, add-one, arith}
use Rattle.memchr.specs.Find.{Nowhere, Passes, is_byte}
use Rattle.mote_text.specs.Script.{script_lines}
use Rattle.mote_text.proofs.Common.{lt-ltb, onto_first, parts, slice_split-cons_no, slice_split-cons_yes, with_last_if}
use Rattle.mote_text.proofs.WholeLines.{some_part}

abbrev with_last : List (List ℕ) → List (List ℕ)
with_last lines = with_last_if (λ last. nat_lt 0 (length last)) lines

with_last_next : (line : List ℕ) (later : List (List ℕ)) → 0 < length later → with_last (line ∷ later) ≡ line ∷ with_last later
with_last_next line [] some = absurd (omega arith)
with_last_next line (next ∷ later) some = refl

has_bytes : (byte : ℕ) (line : List ℕ) → nat_lt 0 (length (byte ∷ line)) ≡ true
has_bytes byte line = lt-ltb 0 (length (byte ∷ line)) (omega arith)

with_last_onto_first : (byte : ℕ) (lines : List (List ℕ)) → 0 < length lines → with_last (onto_first byte lines) ≡ onto_first byte (with_last lines)
with_last_onto_first byte [] some = absurd (omega arith)
with_last_onto_first byte ([] ∷ []) some = refl
with_last_onto_first byte ((first ∷ line) ∷ []) some = rw (has_bytes first line, has_bytes byte (first ∷ line)) refl
with_last_onto_first byte (line ∷ next ∷ later) some = refl

-- one more byte in front: a newline ends an empty line, any other byte goes in front of the first line
pub lines_with_byte : (byte : ℕ) (bytes : List ℕ) (is_end : Bool) → (byte == 10) ≡ is_end →
    script_lines (byte ∷ bytes) ≡ (if is_end then [] ∷ script_lines bytes else onto_first byte (script_lines bytes))
lines_with_byte byte bytes true is = rw (slice_split-cons_yes (λ b. b == 10) byte bytes is) (with_last_next [] (parts bytes) (some_part bytes))
lines_with_byte byte bytes false is = rw (slice_split-cons_no (λ b. b == 10) byte bytes is) (with_last_onto_first byte (parts bytes) (some_part bytes))

not_true : (b : Bool) → (b ≡ true → ⊥) → b ≡ false
not_true true apart = absurd (apart refl)
not_true false apart = refl

-- a byte before the first newline
no_end_at_first : (byte : ℕ) (bytes : List ℕ) (k : ℕ) → 0 < k → Nowhere (Passes (is_byte 10) (byte ∷ bytes)) 0 k → (byte == 10) ≡ false
no_end_at_first byte bytes k some none = not_true (byte == 10) (λ is. none 0 (omega arith) some is)

-- what has no newline is one line
last_line_is : (byte : ℕ) (bytes : List ℕ) → Nowhere (Passes (is_byte 10) (byte ∷ bytes)) 0 (length (byte ∷ bytes)) →
    script_lines (byte ∷ bytes) ≡ (byte ∷ bytes) ∷ []
last_line_is byte [] none = lines_with_byte byte [] false (no_end_at_first byte [] 1 (omega arith) none)
last_line_is byte (next ∷ bytes) none =
    lines_with_byte byte (next ∷ bytes) false (no_end_at_first byte (next ∷ bytes) (length (byte ∷ next ∷ bytes)) (omega arith) none)
    ∙ ap (onto_first byte) (last_line_is next bytes (λ k low high is. none (suc k) (omega arith) (omega arith) is))

-- the first newline ends the first line
first_line_is : (bytes : List ℕ) (k : ℕ) → k < length bytes → Nowhere (Passes (is_byte 10) bytes) 0 k → Passes (is_byte 10) bytes k →
    script_lines bytes ≡ take k bytes ∷ script_lines (drop (suc k) bytes)
first_line_is [] k within none here = absurd (omega arith)
first_line_is (byte ∷ bytes) zero within none here = lines_with_byte byte bytes true here
first_line_is (byte ∷ bytes) (suc k) within none here =
    lines_with_byte byte bytes false (no_end_at_first byte bytes (suc k) (omega arith) none)
    ∙ ap (onto_first byte) (first_line_is bytes k (omega arith) (λ j low high is. none (suc j) (omega arith) (omega arith) is) here)

pub first_line_at : (bytes : List ℕ) (k : ℕ) → k < length bytes → Nowhere (Passes (is_byte 10) bytes) 0 k → Passes (is_byte 10) bytes k →
    script_lines bytes ≡ take k bytes ∷ script_lines (drop (k + 1) bytes)
first_line_at bytes k within none here = rw add-one (first_line_is bytes k within none here)

no_bytes : (bytes : List ℕ) (n : ℕ) → script_lines (take (n - n) bytes) ≡ []
no_bytes bytes n = let none : n - n ≡ 0 = omega arith in rw none refl

pub last_line_at : (bytes : List ℕ) → 0 < length bytes → Nowhere (Passes (is_byte 10) bytes) 0 (length bytes) →
    script_lines bytes ≡ bytes ∷ script_lines (take (length bytes - length bytes) (drop (length bytes) bytes))
last_line_at [] some none = absurd (omega arith)
last_line_at (byte ∷ bytes) some none =
    last_line_is byte bytes none
    ∙ ap (λ (later : List (List ℕ)). (byte ∷ bytes) ∷ later) (sym (no_bytes (drop (length (byte ∷ bytes)) (byte ∷ bytes)) (length (byte ∷ bytes))))
