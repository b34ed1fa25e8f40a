-- Examples: the words of calls, with bytes as they are shown.
use Rattle.std.proofs.Common.{◌≡◌, ◌∙◌, ◌⊎◌, ℕ, zero, suc, List, [], ◌∷◌, ◌++◌, inl, inr, codes, length, get_or, take, drop, refl, ap, ap₂, sym, arith}
use Rattle.std.specs.Fmt.{digits}
use Rattle.hex.specs.Hex.{decode_pairs}
use Rattle.pictures.specs.Words.{AreCallWords, call_by, closing, opening}

-- where a text is cut at a space
blank_at : (front last : List ℕ) → get_or (front ++ 32 ∷ last) (length front) 0 ≡ 32
blank_at [] last = refl
blank_at (byte ∷ front) last = blank_at front last

front_of : (front last : List ℕ) → take (length front) (front ++ 32 ∷ last) ≡ front
front_of [] last = refl
front_of (byte ∷ front) last = ap (λ text. byte ∷ text) (front_of front last)

last_of : (front last : List ℕ) → drop (suc (length front)) (front ++ 32 ∷ last) ≡ last
last_of [] last = refl
last_of (byte ∷ front) last = last_of front last

-- a call without bytes is shown as it is
one_word : (words : List ℕ) → AreCallWords (codes "exit") words → words ≡ codes "exit"
one_word words (inl alone) = alone.1
one_word words (inr (front, last, cut, free, is)) = absurd (no_blank (length front) (ap (λ text. get_or text (length front) 0) cut ∙ blank_at front last))
  where
    no_blank : (index : ℕ) → get_or (codes "exit") index 0 ≡ 32 → ⊥
    no_blank zero is = absurd (omega (arith, is))
    no_blank (suc zero) is = absurd (omega (arith, is))
    no_blank (suc (suc zero)) is = absurd (omega (arith, is))
    no_blank (suc (suc (suc zero))) is = absurd (omega (arith, is))
    no_blank (suc (suc (suc (suc index)))) is = absurd (omega (arith, is))

-- the spaces of a call of three words
blanks : (index : ℕ) → get_or (codes "print 6 61") index 0 ≡ 32 → (index ≡ 5) ⊎ (index ≡ 7)
blanks zero is = absurd (omega (arith, is))
blanks (suc zero) is = absurd (omega (arith, is))
blanks (suc (suc zero)) is = absurd (omega (arith, is))
blanks (suc (suc (suc zero))) is = absurd (omega (arith, is))
blanks (suc (suc (suc (suc zero)))) is = absurd (omega (arith, is))
blanks (suc (suc (suc (suc (suc zero))))) is = inl refl
blanks (suc (suc (suc (suc (suc (suc zero)))))) is = absurd (omega (arith, is))
blanks (suc (suc (suc (suc (suc (suc (suc zero))))))) is = inr refl
blanks (suc (suc (suc (suc (suc (suc (suc (suc zero)))))))) is = absurd (omega (arith, is))
blanks (suc (suc (suc (suc (suc (suc (suc (suc (suc zero))))))))) is = absurd (omega (arith, is))
blanks (suc (suc (suc (suc (suc (suc (suc (suc (suc (suc index)))))))))) is = absurd (omega (arith, is))

shown_last : call_by (codes "print 6") (codes "61") ≡ codes "print 6 " ++ opening ++ codes "a" ++ closing
unfolding digits decode_pairs lib.Utf8.encode
shown_last = refl

-- what is after the last space is shown as bytes
three_words : (words : List ℕ) → AreCallWords (codes "print 6 61") words → words ≡ codes "print 6 " ++ opening ++ codes "a" ++ closing
three_words words (inl alone) = absurd (alone.0 7 (omega arith) refl)
three_words words (inr (front, last, cut, free, is)) =
    at_last (blanks (length front) (ap (λ text. get_or text (length front) 0) cut ∙ blank_at front last))
  where
    front_is : take (length front) (codes "print 6 61") ≡ front
    front_is = ap (take (length front)) cut ∙ front_of front last

    last_is : drop (suc (length front)) (codes "print 6 61") ≡ last
    last_is = ap (drop (suc (length front))) cut ∙ last_of front last

    at_last : (length front ≡ 5) ⊎ (length front ≡ 7) → words ≡ codes "print 6 " ++ opening ++ codes "a" ++ closing
    at_last (inl five) =
        let rest : codes "6 61" ≡ last = rw five at last_is in
        absurd (free 1 (rw (sym rest) (omega arith)) (rw (sym rest) refl))
    at_last (inr seven) =
        let first : codes "print 6" ≡ front = rw seven at front_is in
        let rest : codes "61" ≡ last = rw seven at last_is in
        is ∙ ap₂ call_by (sym first) (sym rest) ∙ shown_last
