-- Texts cut at their first blank, also with hex digits in lower case.
use Rattle.std.proofs.Common.{◌≡◌, ◌∙◌, ◌≢◌, ◌<◌, ◌==◌, ◌&&◌, ℕ, suc, Bool, true, false, not, List, [], ◌∷◌, ◌++◌, length, get_or, drop, nat_le, refl, ap, ne_eqb, arith, append-nil}
use Rattle.std.proofs.lemmas.Bool.{and_parts}
use Rattle.std.proofs.lemmas.List.Sums.{AllPass-from_list_all}
use Rattle.std.specs.Prelude.{⊤}
use Rattle.std.specs.List.{list_all}
use Rattle.mote_text.specs.EntryText.{Word}
use Rattle.call_lists.specs.Spaced.{spaced}
use Rattle.call_lists.specs.Calls.{hex_lowered}
use Rattle.call_lists.specs.Code.Readings.{behind_first, first_word}

pub differ : {a b : ℕ} {front back : List ℕ} → a ∷ front ≡ b ∷ back → (a == b) ≡ false → ⊥
differ {a} {b} same other = grind arith

abbrev pub is_plain : ℕ → Bool
is_plain c = not (c == 32) && not (c == 44)

abbrev pub IsPlain : List ℕ → Type 0
IsPlain text = list_all is_plain text ≡ true

-- empty, or begins with a blank
abbrev pub IsBehind : List ℕ → Type 0
IsBehind [] = ⊤
IsBehind (c ∷ text) = c ≡ 32

pub behind_spaced : (words : List Word) → IsBehind (spaced words)
unfolding spaced
behind_spaced [] = tt
behind_spaced (word ∷ words) = refl

pub cut_of_free : (word left : List ℕ) → ((i : ℕ) → i < length word → get_or word i 0 ≢ 32) → IsBehind left
    → (first_word (word ++ left) ≡ word) × (behind_first (word ++ left) ≡ left)
cut_of_free [] [] free is = (refl, refl)
cut_of_free [] (c ∷ left) free is = rw is (refl, refl)
cut_of_free (c ∷ word) left free is =
    let others = cut_of_free word left (λ i inside. free (suc i) (omega arith)) is in
    rw (ne_eqb c 32 (free 0 (omega arith)), others.0, others.1) (refl, refl)

pub whole_word : (word : List ℕ) → ((i : ℕ) → i < length word → get_or word i 0 ≢ 32) → (first_word word ≡ word) × (behind_first word ≡ [])
whole_word word free = rw (append-nil word) at (cut_of_free word [] free tt)

no_blank : (c : ℕ) → is_plain c ≡ true → (c == 32) ≡ false
no_blank c is = grind arith

pub cut_of_plain : (word left : List ℕ) → IsPlain word → IsBehind left → (first_word (word ++ left) ≡ word)
    × (behind_first (word ++ left) ≡ left)
cut_of_plain word left plain is = cut_of_free word left free is
  where
    free : (i : ℕ) → i < length word → get_or word i 0 ≢ 32
    free i inside same = grind (arith, AllPass-from_list_all is_plain word plain i 0 inside)

-- no hex letter, so unchanged in lower case
abbrev pub is_kept : ℕ → Bool
is_kept c = not (nat_le 97 c && nat_le c 102)

module _ (c : ℕ) where
  -- ---- with hex digits of either case

  abbrev pub lowered : ℕ
  lowered = get_or (hex_lowered (c ∷ [])) 0 0

  module _ (d : ℕ) where
    head_of : (text others : List ℕ) → hex_lowered (c ∷ text) ≡ d ∷ others → lowered ≡ d
    head_of text others same = grind arith

    tail_of : (text others : List ℕ) → hex_lowered (c ∷ text) ≡ d ∷ others → hex_lowered text ≡ others
    tail_of text others same = ap (drop 1) same

    plain_lowered : lowered ≡ d → is_plain d ≡ true → is_plain c ≡ true
    plain_lowered same is = grind arith

    pub kept : lowered ≡ d → is_kept d ≡ true → c ≡ d
    kept same is = grind arith

pub behind_lowered : (text left : List ℕ) → IsBehind left → hex_lowered text ≡ left → IsBehind text
behind_lowered text left is same = grind arith

pub kept_lowered : (text word : List ℕ) → list_all is_kept word ≡ true → hex_lowered text ≡ word → text ≡ word
kept_lowered [] word all same = same
kept_lowered (c ∷ text) [] all same = cc same
kept_lowered (c ∷ text) (d ∷ word) all same =
    let parts = and_parts (is_kept d) (list_all is_kept word) all in
    rw (kept c d (head_of c d text word same) parts.0, kept_lowered text word parts.1 (tail_of c d text word same)) refl

pub lowered_cut : (text word left : List ℕ) → IsPlain word → IsBehind left → hex_lowered text ≡ word ++ left
    → (hex_lowered (first_word text) ≡ word) × (hex_lowered (behind_first text) ≡ left)
lowered_cut [] [] left plain is same = (refl, same)
lowered_cut [] (d ∷ word) left plain is same = cc same
lowered_cut (c ∷ text) [] [] plain is same = cc same
lowered_cut (c ∷ text) [] (d ∷ left) plain is same = grind arith
lowered_cut (c ∷ text) (d ∷ word) left plain is same =
    let parts = and_parts (is_plain d) (list_all is_plain word) plain in
    let head = head_of c d text (word ++ left) same in
    let others = lowered_cut text word left parts.1 is (tail_of c d text (word ++ left) same) in
    rw (no_blank c (plain_lowered c d head parts.0)) (
      ap (λ c. c ∷ hex_lowered (first_word text)) head ∙ ap (λ word. d ∷ word) others.0,
      others.1,
    )
