-- A text makes calls in one way: their number, the calls, and where its parts end.
use Rattle.std.proofs.Common.{◌≡◌, ◌∙◌, ◌≢◌, ◌<◌, ◌≤◌, ◌⊎◌, ◌+◌, ◌^◌, ◌==◌, ℕ, Bool, true, false, not, List, [], ◌∷◌, ◌++◌, length, slice_index, get_or, drop, codes, decimal, Option, Some, None, IsSome, inl, inr, refl, sym, ap, subst, append-nil, append_assoc, length-append, drop_at, arith}
use Rattle.std.proofs.lemmas.Bool.{and_parts, cases_lt}
use Rattle.std.proofs.lemmas.List.Folds.{list_all-append, list_all-map}
use Rattle.std.proofs.lemmas.Fmt.{decimal_nonempty}
use Rattle.std.specs.Char.{is_ascii_digit}
use Rattle.std.specs.List.{join_by, list_all}
use Rattle.mote_text.proofs.Digits.{all_weaker}
use Rattle.mote_text.proofs.Ticks.{read_decimal}
use Rattle.mote_text.specs.EntryText.{Word}
use Rattle.call_lists.specs.Spaced.{spaced}
use Rattle.mote_text.specs.Script.{read_number}
use Rattle.mote_types.specs.declared.call.Call.{Call}
use denote.Ref.{Bor}
use Rattle.call_lists.specs.Calls.{AreCalls, AreMade, AreOfParts, IsCall, IsListOf, hex_lowered}
use Rattle.call_lists.specs.Faults.{IsNoCall, IsNoNumber, LiesOutside}
use Rattle.call_lists.specs.declared.fault.CallFault.{CallFault}
use Rattle.call_lists.specs.Ranges.{ArePossible, IsPossible}
use Rattle.call_lists.specs.Code.Lists.{HasCalls, behind_comma, behind_commas}
use Rattle.call_lists.specs.Code.Readings.{Test, behind_first, first_word}
use Rattle.call_lists.proofs.Cuts.{IsPlain, cut_of_plain, is_plain, lowered}
use Rattle.call_lists.proofs.Fitting.{AllFit, FitsCall, all_digits, plain_digits}
use Rattle.call_lists.proofs.Possible.{name_of, well_formed}

-- ---- parts without commas

abbrev is_other : ℕ → Bool
is_other c = not (c == 44)

abbrev HasNoComma : List ℕ → Type 0
HasNoComma text = list_all is_other text ≡ true

plain_is_other : (text : List ℕ) → IsPlain text → HasNoComma text
plain_is_other text plain = all_weaker is_plain is_other text (λ c is. (and_parts (not (c == 32)) (is_other c) is).1) plain

both_other : (a b : List ℕ) → HasNoComma a → HasNoComma b → HasNoComma (a ++ b)
both_other a b first others = rw (list_all-append is_other a b, first) others

spaced_other : (tests : List Test) (words : List Word) → AllFit tests words → HasNoComma (spaced words)
unfolding spaced
spaced_other [] [] fit = refl
spaced_other [] (word ∷ words) fit = absurd fit
spaced_other (test ∷ tests) [] fit = absurd fit
spaced_other (test ∷ tests) (word ∷ words) fit =
    both_other (32 ∷ word) (spaced words) (plain_is_other word fit.0.0) (spaced_other tests words fit.1)

arguments_other : (tests : Option (List Test)) (words : List Word) → FitsCall tests words → HasNoComma (spaced words)
arguments_other None words fit = absurd fit
arguments_other (Some tests) words fit = spaced_other tests words fit

-- ---- a call begins with a letter, and a number with a digit

letter_of : (name rest : List ℕ) → is_ascii_digit (get_or name 0 48) ≡ false → is_ascii_digit (slice_index (name ++ rest) 0) ≡ false
letter_of [] rest is = cc is
letter_of (c ∷ name) rest is = is

digit_of : (digits rest : List ℕ) → list_all is_ascii_digit digits ≡ true → 0 < length digits
    → is_ascii_digit (slice_index (digits ++ rest) 0) ≡ true
digit_of [] rest all some = absurd (omega arith)
digit_of (c ∷ digits) rest all some = grind arith

module _ (text : List ℕ) where
  others_lowered : HasNoComma (hex_lowered text) → HasNoComma text
  others_lowered are =
      all_weaker (λ c. is_other (lowered c)) is_other text (λ c is. grind arith)
      (sym (list_all-map is_other lowered text) ∙ are)

  abbrev pub has_digit : Bool
  has_digit = is_ascii_digit (slice_index text 0)

module _ (text : List ℕ) where
  of_call : (call : Call) → IsPossible call → IsCall text call → HasNoComma text × (has_digit text ≡ false)
  of_call call possible is = (
    grind (arith, well_formed, others_lowered, arguments_other, name_of, plain_is_other),
    grind (arith, well_formed, name_of),
  )

  of_calls : (made : List Call) → ArePossible made → 0 < length made → AreCalls text made → HasNoComma text × (has_digit text ≡ false)
  of_calls [] possible some are = absurd (omega arith)
  of_calls (call ∷ made) possible some are = of_call call possible.0 are.0

  -- no call is made of a text whose first call is refused
  pub none_made : IsNoCall text → (made : List Call) → ArePossible made → AreCalls text made → 0 < length made → ⊥
  none_made refused [] possible are some = absurd (omega arith)
  none_made refused (call ∷ made) possible are some = refused call possible.0 are.0

module _ (text : List ℕ) where
  -- a number, then the rest
  record IsNumbered (n : ℕ) (rest : List ℕ) : Type 0 where
    reads : read_number (first_word text) ≡ Some n
    behind : behind_first text ≡ 32 ∷ rest
    digit : has_digit text ≡ true

  numbered : (rest : List ℕ) (n : ℕ) → n < 2 ^ 32 → text ≡ decimal n ++ codes " " ++ rest → IsNumbered n rest
  numbered rest n wide whole =
      let digits = all_digits n wide in
      grind (
        arith,
        is_ascii_digit,
        slice_index,
        digit_of,
        decimal,
        decimal_nonempty,
        read_decimal,
        cut_of_plain (decimal n) (32 ∷ rest) (plain_digits (decimal n) digits) refl,
        append_assoc,
        codes,
      )

  module _ (made : List Call) (possible : ArePossible made) (few : length made ≤ 128) where
    made_other : AreMade text made → HasNoComma text
    made_other (inl once) = (of_calls text made possible (omega arith) once.1).0
    made_other (inr counted) =
        let digits =
        plain_is_other (decimal (length made)) (plain_digits (decimal (length made)) (all_digits (length made) (omega arith))) in
        subst HasNoComma (sym (counted.2 ∙ append_assoc (decimal (length made)) (codes " ") counted.0))
        (both_other (decimal (length made)) (32 ∷ counted.0) digits (of_calls counted.0 made possible counted.1 counted.3).0)

    -- without a digit at the front, or without a blank
    pub once_only : (has_digit text ≡ false) ⊎ (behind_first text ≡ []) → AreMade text made → (length made ≡ 1) × AreCalls text made
    once_only none (inl once) = once
    once_only (inl letter) (inr counted) =
        let digit = (numbered counted.0 (length made) (omega arith) counted.2).digit in absurd (cc)
    once_only (inr none) (inr counted) = cc (sym none ∙ (numbered counted.0 (length made) (omega arith) counted.2).behind)

    counted_only : has_digit text ≡ true → AreMade text made
        → (rest : List ℕ) × (0 < length made) × IsNumbered (length made) rest × AreCalls rest made
    counted_only digit (inl once) = let letter = (of_calls text made possible (omega arith) once.1).1 in absurd (cc)
    counted_only digit (inr counted) = (counted.0, counted.1, numbered counted.0 (length made) (omega arith) counted.2, counted.3)

    module _ (count : List ℕ) where
      pub numbered_only : (rest : List ℕ) (n : ℕ) → has_digit text ≡ true → count ≡ first_word text → 32 ∷ rest ≡ behind_first text
          → read_number count ≡ Some n → AreMade text made → (length made ≡ n) × AreCalls rest made
      numbered_only rest n digit first behind reads are =
          let counted = counted_only digit are in
          (grind arith, subst (λ text. AreCalls text made) (ap (drop 1) (sym counted.2.behind ∙ sym behind)) counted.3)

      pub misnumbered : (fault : CallFault) → has_digit text ≡ true → count ≡ first_word text → IsNoNumber count 1 128 fault
          → AreMade text made → ⊥
      misnumbered (CallFault.NoNumber reported lowest highest) digit first is are =
          let counted = counted_only digit are in
          outside counted.1 (subst (LiesOutside 1 128) (ap read_number first ∙ counted.2.reads) is.3)
        where
          outside : 0 < length made → LiesOutside 1 128 (Some (length made)) → ⊥
          outside some (inl below) = absurd (omega arith)
          outside some (inr above) = absurd (omega arith)
      misnumbered fault digit first is are = absurd is

-- ---- part by part

comma_fails : (front rest : List ℕ) → HasNoComma (front ++ 44 ∷ rest) → ⊥
comma_fails [] rest are = cc are
comma_fails (c ∷ front) rest are = comma_fails front rest (and_parts (is_other c) (list_all is_other (front ++ 44 ∷ rest)) are).1

same_front : (a b rest others : List ℕ) → HasNoComma b → length a ≤ length b → a ++ (codes ", " ++ rest) ≡ b ++ (codes ", " ++ others)
    → (a ≡ b) × (rest ≡ others)
same_front [] [] rest others are short same = (refl, ap (drop 2) same)
same_front [] (c ∷ b) rest others are short same = cc
same_front (c ∷ a) [] rest others are short same = absurd (omega arith)
same_front (c ∷ a) (d ∷ b) rest others are short same =
    let tail = same_front a b rest others (and_parts (is_other d) (list_all is_other b) are).1 (omega (arith, short)) (ap (drop 1) same) in
    (ap (λ c. c ∷ a) (ap (λ text. get_or text 0 0) same) ∙ ap (λ a. d ∷ a) tail.0, tail.1)

possible_parts : (a b : List Call) → ArePossible (a ++ b) → ArePossible a × ArePossible b
possible_parts [] b are = (tt, are)
possible_parts (call ∷ a) b are = let later = possible_parts a b are.1 in ((are.0, later.0), later.1)

module _ (text part : List ℕ) where
  -- the first part of a text with commas
  abbrev pub IsFirst : Option (Bor (List ℕ)) → Type 0
  IsFirst others = (front rest : List ℕ) → text ≡ front ++ (codes ", " ++ rest) → (length part ≤ length front) × IsSome others

  same_cut : (first : List ℕ) (others : Option (Bor (List ℕ))) (parts : List (List ℕ)) → HasNoComma first
      → text ≡ first ++ behind_commas parts
      → text ≡ part ++ behind_comma others → IsFirst others → (first ≡ part) × (behind_comma others ≡ behind_commas parts)
  same_cut first None [] are whole cut leads = (sym (append-nil first) ∙ sym whole ∙ cut ∙ append-nil part, refl)
  same_cut first (Some others) [] are whole cut leads =
      absurd (comma_fails part (32 ∷ others.now) (subst HasNoComma (sym (append-nil first) ∙ sym whole ∙ cut) are))
  same_cut first None (next ∷ parts) are whole cut leads = cc (leads first (next ++ behind_commas parts) whole).1
  same_cut first (Some others) (next ∷ parts) are whole cut leads =
      let rest = next ++ behind_commas parts in
      let same = same_front part first others.now rest are (leads first rest whole).0 (sym cut ∙ whole) in
      (sym same.0, ap (λ rest. codes ", " ++ rest) same.1)

-- the calls of the first part, and the text of the others
pub first_part : {left : Option (Bor (List ℕ))} {text : Bor (List ℕ)} (part : List ℕ) (others : Option (Bor (List ℕ))) (place room : ℕ)
    → left ≡ Some text → text.now ≡ part ++ behind_comma others → IsFirst text.now part others → room ≤ 128
    → HasCalls (behind_comma left) place room
    → (made : List Call) × ArePossible made × AreMade part made × (place + length made ≤ room)
    × HasCalls (behind_comma others) (place + length made) room
first_part {text = text} part others place room is cut leads few (calls, possible, (parts, whole, are), fit) =
    by parts (ap behind_comma (sym is) ∙ whole) are
  where
    by : (parts : List (List ℕ)) → codes ", " ++ text.now ≡ behind_commas parts → AreOfParts parts calls
        → (made : List Call) × ArePossible made × AreMade part made × (place + length made ≤ room)
        × HasCalls (behind_comma others) (place + length made) room
    by [] whole are = cc whole
    by (front ∷ parts) whole are =
        let made = are.0 in
        let more = are.1 in
        let both = possible_parts made more (subst ArePossible are.2 possible) in
        let size = ap length are.2 ∙ length-append made more in
        let same = same_cut text.now part front others parts (made_other front made both.0 (omega (arith, size)) are.3)
        (ap (drop 2) whole) cut leads in (
          made,
          both.0,
          subst (λ part. AreMade part made) same.0 are.3,
          omega arith,
          (more, both.1, (parts, same.1, are.4), omega arith),
        )

module _ (text : List ℕ) where
  pub calls_of_list : (calls : List Call) (room : ℕ) → 0 < length text → ArePossible calls → length calls ≤ room
      → IsListOf text calls → HasCalls (codes ", " ++ text) 0 room
  calls_of_list calls room some possible long list =
      by list.parts list.is_text list.are_of_parts
    where
      by : (parts : List (List ℕ)) → text ≡ join_by (λ part. part) (codes ", ") parts → AreOfParts parts list.made
          → HasCalls (codes ", " ++ text) 0 room
      by [] is are = absurd (omega (arith, ap length is))
      by (part ∷ parts) is are = (
        list.made,
        (possible_parts list.made list.waits (subst ArePossible list.are_calls possible)).0,
        (part ∷ parts, ap (λ text. codes ", " ++ text) is, are),
        omega (arith, ap length list.are_calls, length-append list.made list.waits),
      )

  -- a word that is not found before byte i
  pub first_at : (word : List ℕ) (i : ℕ) → ((k : ℕ) → k < i → (rest : List ℕ) → drop k text ≢ word ++ rest)
      → (front rest : List ℕ) → text ≡ front ++ (word ++ rest) → i ≤ length front
  first_at word i lacks front rest is = elim (cases_lt (length front) i) [
    | inl below ↦ absurd (lacks (length front) below rest (ap (drop (length front)) is ∙ drop_at front (word ++ rest) (length front) refl))
    | inr within ↦ within
  ]
