-- Texts of decimal digits.
use Rattle.std.proofs.Common.{◌≡◌, Bool, true, ℕ, List, rules}
use Rattle.std.proofs.lemmas.List.Elements.{All-weaker}
use Rattle.std.proofs.lemmas.List.Sums.{AllPass-from_list_all, list_all-from_AllPass}
use Rattle.mote_text.proofs.Common.{is_ascii_digit, list_all, digits_value, IsNumeralModel, numerals_by_value}

pub digits_are_numerals : IsNumeralModel (λ ds. list_all is_ascii_digit ds ≡ true) (digits_value 10)
digits_are_numerals = numerals_by_value _ (search rules)

pub all_weaker : (p q : ℕ → Bool) (text : List ℕ) → ((c : ℕ) → p c ≡ true → q c ≡ true) → list_all p text ≡ true → list_all q text ≡ true
all_weaker p q text weaker all =
    list_all-from_AllPass q text (All-weaker (λ c. p c ≡ true) (λ c. q c ≡ true) weaker text (AllPass-from_list_all p text all))
