-- A text that leaves parts out fits where each part is matched as soon as it can be.
use Rattle.std.proofs.Common.{Option, Some, None, ◌≡◌, ◌≢◌, ◌≤◌, ◌<◌, ◌+◌, ◌-◌, ◌↔◌, ◌++◌, ◌∙◌, ◌∷◌, ℕ, Bool, true, false, List, [], length, get_or, zero, suc, take, drop, inl, inr, refl, sym, ap, subst, arith, append_assoc, length-append}
use Rattle.std.proofs.lemmas.List.{append_cancel_left, map-append, take-append-drop, length-take-le, append-nil, take-map, drop-map, length-map, take_all, length-drop}
use Rattle.std.proofs.lemmas.Slice.Eq.{bytes_eq-Decides, slice_eq-Decides, ends_is}
use Rattle.std.specs.Cmp.Derive.Mapped.{pointwise-map}
use Rattle.std.specs.Cmp.Lexicographic.{pointwise}
use Rattle.std.proofs.Math.Seq.{take-append_seam, drop-append_seam}
use Rattle.std.proofs.lemmas.Bool.{cases_eq}
use Rattle.std.specs.Option.{MatchOption}
use Rattle.std.specs.List.{ends_with}
use Rattle.std.specs.Str.{bytes_eq}
use Rattle.std.specs.Bool.{Decides}
use denote.Ref.{Bor}
use Rattle.mote_kit.specs.Gaps.{Fits, gap, texts}
use Rattle.mote_kit.specs.Code.Parts.{HasNoGap, IsFirst, IsNotEarlier, IsNowhere}

-- the lines of a text
abbrev pub Lines : Type 0
Lines = List (List ℕ)

abbrev pub same_text : Bor (List ℕ) → Bor (List ℕ) → Bool
same_text a b = bytes_eq a.now b.now

abbrev text_of : Bor (List ℕ) → List ℕ
text_of line = line.now

halves : (n : ℕ) (lines : List (Bor (List ℕ))) → texts lines ≡ texts (take n lines) ++ texts (drop n lines)
halves n lines = ap texts (sym (take-append-drop n lines)) ∙ map-append text_of (take n lines) (drop n lines)

pub equals : (xs ys : List (Bor (List ℕ))) → Decides (pointwise same_text xs ys) (texts xs ≡ texts ys)
equals xs ys = slice_eq-Decides bytes_eq-Decides (texts xs) (texts ys) _ (sym (pointwise-map text_of bytes_eq xs ys))

module _ (xs ys : List (Bor (List ℕ))) where
  long : length (texts ys) ≡ length ys
  long = length-map ys text_of

  pub strips : (r : Option (Bor (List (Bor (List ℕ))))) → MatchOption r (pointwise same_text (take (length ys) xs) ys ≡ false)
      (λ x. (pointwise same_text (take (length ys) xs) ys ≡ true) × (x.now ≡ drop (length ys) xs) × (length x.now + length ys ≡ length xs))
      → MatchOption r ((rest : Lines) → texts xs ≢ texts ys ++ rest) (λ x. texts xs ≡ texts ys ++ texts x.now)
  strips None fails = λ rest is.
      let same : texts (take (length ys) xs) ≡ texts ys =
      sym (take-map text_of (length ys) xs) ∙ rw (is, sym long) (take-append_seam (texts ys) rest) in
      absurd (grind (arith, (equals (take (length ys) xs) ys).1 same, fails))
  strips (Some x) there = rw (there.1, sym ((equals (take (length ys) xs) ys).0 there.0)) (halves (length ys) xs)

  pub ends : (r : Bool) → r ≡ ends_with same_text xs ys
      → (r ≡ true → (skipped : Lines) × (texts xs ≡ skipped ++ texts ys)) × ((skipped : Lines) → texts xs ≡ skipped ++ texts ys → r ≡ true)
  ends r is =
      let all : length (texts xs) ≡ length xs = length-map xs text_of in
      let same : ends_with same_text xs ys ≡ ends_with bytes_eq (texts xs) (texts ys) =
      rw (long, all, drop-map text_of (length xs - length ys) xs)
      (sym (pointwise-map text_of bytes_eq ys (drop (length xs - length ys) xs))) in
      let read = ends_is bytes_eq-Decides (texts xs) (texts ys) r (is ∙ same) in
      ((λ yes. (take (length (texts xs) - length (texts ys)) (texts xs), read.0 yes)), read.1)

-- the lines before one, that one, and those after it
pub cut : (i : ℕ) (lines : List (Bor (List ℕ))) (other : Bor (List ℕ)) → i < length lines
    → texts lines ≡ texts (take i lines) ++ ((get_or lines i other).now ∷ texts (drop (i + 1) lines))
cut i [] other few = absurd (omega arith)
cut zero (line ∷ lines) other few = refl
cut (suc i) (line ∷ lines) other few =
    let rest = cut i lines other (omega arith) in grind arith

pub drop_whole : {A : Type 0} (n : ℕ) (lines : List A) → take (length lines - n) (drop n lines) ≡ drop n lines
drop_whole n lines = take_all (length lines - n) (drop n lines) (omega (arith, length-drop n lines))

pub cut_at : (i : ℕ) (lines : List (Bor (List ℕ))) (other : Bor (List ℕ)) → i < length lines
    → true ≡ bytes_eq (get_or lines i other).now gap
    → texts lines ≡ texts (take i lines) ++ (gap ∷ texts (take (length lines - (i + 1)) (drop (i + 1) lines)))
cut_at i lines other few same =
    let is_gap : (get_or lines i other).now ≡ gap = (bytes_eq-Decides (get_or lines i other).now gap).0 (sym same) in
    rw (drop_whole (i + 1) lines, sym is_gap) (cut i lines other few)

-- lines match themselves
pub fits_same : (front wanted rest : Lines) → Fits wanted rest → Fits (front ++ wanted) (front ++ rest)
fits_same [] wanted rest fits = fits
fits_same (line ∷ front) wanted rest fits = (line ∷ [], front ++ rest, refl, inr refl, fits_same front wanted rest fits)

-- and only themselves, where none is a gap
pub fits_front : (front wanted found : Lines) → HasNoGap front → Fits (front ++ wanted) found
    → (rest : Lines) × (found ≡ front ++ rest) × Fits wanted rest
fits_front [] wanted found none fits = (found, refl, fits)
fits_front (line ∷ front) wanted found none (part, rest, is, inl is_gap, fits) = absurd (none.0 is_gap)
fits_front (line ∷ front) wanted found none (part, rest, is, inr same, fits) =
    let more = fits_front front wanted rest none.1 fits in (more.0, grind arith, more.2)

module _ (lines : Lines) (none : HasNoGap lines) where
  pub fits_begun : (wanted rest : Lines) → Fits (lines ++ wanted) (lines ++ rest) ↔ Fits wanted rest
  fits_begun wanted rest = (
    (λ (fits : Fits (lines ++ wanted) (lines ++ rest)). let after = fits_front lines wanted (lines ++ rest) none fits in
        subst (Fits wanted) (sym (append_cancel_left lines rest after.0 after.1)) after.2),
    fits_same lines wanted rest,
  )

  pub fits_whole : (found : Lines) → (lines ≡ found) ↔ Fits lines found
  fits_whole found = (
    (λ (is : lines ≡ found). subst (Fits lines) is (subst (λ l. Fits l l) (append-nil lines) (fits_same lines [] [] refl))),
    (λ (fits : Fits lines found). let after = fits_front lines [] found none (subst (λ l. Fits l found) (sym (append-nil lines)) fits) in
        sym (after.1 ∙ (ap (λ l. lines ++ l) after.2 ∙ append-nil lines))),
  )

  pub fits_last : (found : Lines) → ((skipped : Lines) × (found ≡ skipped ++ lines)) ↔ Fits (gap ∷ lines) found
  fits_last found = (
    (λ (ends : (skipped : Lines) × (found ≡ skipped ++ lines)). (ends.0, lines, ends.1, inl refl, (fits_whole lines).0 refl)),
    (λ (fits : Fits (gap ∷ lines) found). (fits.0, fits.2 ∙ ap (λ l. fits.0 ++ l) (sym ((fits_whole fits.1).1 fits.4)))),
  )

-- a gap matches more lines
pub fits_more : (extra wanted found : Lines) → Fits (gap ∷ wanted) found → Fits (gap ∷ wanted) (extra ++ found)
fits_more extra wanted found (part, rest, is, _, fits) =
    (extra ++ part, rest, ap (λ l. extra ++ l) is ∙ sym (append_assoc extra part rest), inl refl, fits)

-- what is left after a part that is matched sooner
sooner : (skipped left part rest : Lines) → skipped ++ left ≡ part ++ rest → length skipped ≤ length part
    → (extra : Lines) × (left ≡ extra ++ rest)
sooner [] left part rest is few = (part, is)
sooner (a ∷ skipped) left [] rest is few = absurd (omega arith)
sooner (a ∷ skipped) left (b ∷ part) rest is few = sooner skipped left part rest (grind arith) (omega arith)

module _ (part wanted found : Lines) (none : HasNoGap part) where
  -- the part between two gaps, matched as soon as it can be
  pub fits_part : (left : Lines) → IsFirst part found left → Fits (gap ∷ (part ++ (gap ∷ wanted))) found ↔ Fits (gap ∷ wanted) left
  fits_part left (skipped, is, first) = (
    (λ (fits : Fits (gap ∷ (part ++ (gap ∷ wanted))) found).
        let after = fits_front part (gap ∷ wanted) fits.1 none fits.4 in
        let there : found ≡ fits.0 ++ (part ++ after.0) = fits.2 ∙ ap (λ l. fits.0 ++ l) after.1 in
        let more = sooner (skipped ++ part) left (fits.0 ++ part) after.0
        (append_assoc skipped part left ∙ (sym is ∙ (there ∙ sym (append_assoc fits.0 part after.0))))
        (omega (arith, first fits.0 after.0 there, length-append skipped part, length-append fits.0 part)) in
        rw more.1 (fits_more more.0 wanted after.0 after.2)),
    (λ fits. rw is (fits_more skipped (part ++ (gap ∷ wanted)) (part ++ left)
        ([], part ++ left, refl, inl refl, fits_same part (gap ∷ wanted) left fits))),
  )

  pub fits_no_part : IsNowhere part found → Fits (gap ∷ (part ++ (gap ∷ wanted))) found → ⊥
  fits_no_part nowhere fits =
      let after = fits_front part (gap ∷ wanted) fits.1 none fits.4 in
      nowhere fits.0 after.0 (fits.2 ∙ ap (λ l. fits.0 ++ l) after.1)

module _ (start : ℕ) (text : List (Bor (List ℕ))) (lines : Lines) where
  abbrev pub tail : List (Bor (List ℕ))
  tail = take (length text - start) (drop start text)

  pub at_start : (left : Lines) → start ≤ length text → IsNotEarlier lines (texts text) start → texts tail ≡ lines ++ left
      → IsFirst lines (texts text) left
  at_start left fits earlier is =
      let short : length (texts (take start text)) ≡ start = length-map (take start text) text_of ∙ length-take-le start text fits in
      (texts (take start text), halves start text ∙ ap (λ l. texts (take start text) ++ l) (ap texts (sym (drop_whole start text)) ∙ is), rw short earlier)

  pub not_at_start : IsNotEarlier lines (texts text) start → ((rest : Lines) → texts tail ≢ lines ++ rest)
      → IsNotEarlier lines (texts text) (start + 1)
  not_at_start earlier none part rest is = elim (cases_eq start (length part)) [
    | inl same ↦ absurd (none rest (ap texts (drop_whole start text) ∙ (sym (drop-map text_of start text)
        ∙ rw (same, is) (drop-append_seam part (lines ++ rest)))))
    | inr differ ↦ grind (arith, earlier part rest is)
  ]

  pub nowhere : length text < start → IsNotEarlier lines (texts text) start → IsNowhere lines (texts text)
  nowhere end earlier part rest is =
      absurd (omega (arith, earlier part rest is, sym (ap length is), length-append part (lines ++ rest), length-map text text_of))

pub shorter : (lines part after : List (Bor (List ℕ))) → texts lines ≡ texts part ++ (gap ∷ texts after) → length after < length lines
shorter lines part after is =
    omega (
      arith,
      ap length is,
      length-append (texts part) (gap ∷ texts after),
      length-map lines text_of,
      length-map after text_of,
    )
