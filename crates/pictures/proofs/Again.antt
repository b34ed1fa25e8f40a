-- Lines that repeat.
use Rattle.std.proofs.Common.{◌≡◌, ◌∙◌, ◌≤◌, ◌+◌, ◌-◌, ℕ, zero, suc, Bool, false, not, List, [], ◌∷◌, All, inl, inr, refl, sym, subst, bytes_eq, slice_index_or, arith}
use Rattle.std.proofs.lemmas.Bool.{cases_lt}
use Rattle.std.proofs.lemmas.Bool.Decides.{nat_tests}
use Rattle.std.proofs.lemmas.List.Elements.{All-weaker}
use Rattle.std.proofs.lemmas.Slice.Eq.{bytes_eq-Decides}
use denote.Ref.{Bor}
use Rattle.pictures.specs.declared.rows.row.Row.{Row}
use Rattle.pictures.specs.Rows.{AreAgain, AreAsShown, IsPlain, IsTrueRow, bytes_of, text_at}

pub text_is : (lines : List (Bor (List ℕ))) (index : ℕ) (line : Bor (List ℕ)) → line.now ≡ []
    → text_at (bytes_of lines) index ≡ (slice_index_or lines index line).now
text_is [] index line none = sym none
text_is (first ∷ lines) zero line none = refl
text_is (first ∷ lines) (suc index) line none = text_is lines index line none

same_text : (one other : List ℕ) (differ : Bool) → differ ≡ not (bytes_eq one other) → differ ≡ false → one ≡ other
same_text one other differ is none = grind (arith, nat_tests, bytes_eq-Decides)

-- one more line repeats the one n before it
pub one_more : (lines : List (Bor (List ℕ))) (period first end : ℕ) (line : Bor (List ℕ)) (differ : Bool) → line.now ≡ []
    → AreAgain (bytes_of lines) period first end
    → differ ≡ not (bytes_eq (slice_index_or lines end line).now (slice_index_or lines (end - period) line).now) → differ ≡ false
    → AreAgain (bytes_of lines) period first (end + 1)
one_more lines period first end line differ none so_far is same = λ index begins within.
    elim (cases_lt index end) [
      | inl before ↦ so_far index begins before
      | inr after ↦
          let last : end ≡ index = omega arith in
          subst (λ n. text_at (bytes_of lines) n ≡ text_at (bytes_of lines) (n - period)) last
          (text_is lines end line none ∙ same_text _ _ differ is same ∙ sym (text_is lines (end - period) line none))
    ]

-- n more lines
pub more_again : (lines : List (List ℕ)) (period first end : ℕ) → period ≤ end → AreAgain lines period first end
    → AreAgain lines (end - (end - period)) end (end + (end - (end - period))) → AreAgain lines period first (end + period)
more_again lines period first end fits so_far more = λ index begins within.
    let same : end - (end - period) ≡ period = omega arith in
    elim (cases_lt index end) [
      | inl before ↦ so_far index begins before
      | inr after ↦ subst (λ n. text_at lines index ≡ text_at lines (index - n)) same (more index after (omega (arith, same)))
    ]

pub again_row : (lines : List (List ℕ)) (period first end : ℕ) → first ≤ end → AreAgain lines period first end
    → AreAgain lines period first (first + (end - first))
again_row lines period first end order again = λ index begins within. again index begins (omega arith)

plain_row : (lines : List (List ℕ)) (row : Row) → IsPlain row → IsTrueRow lines row
plain_row lines row plain = subst (AreAsShown lines row.first (row.first + row.count)) (sym plain.1) tt

pub plain_rows : (lines : List (List ℕ)) (rows : List Row) → All IsPlain rows → All (IsTrueRow lines) rows
plain_rows lines rows plain = All-weaker IsPlain (IsTrueRow lines) (plain_row lines) rows plain
