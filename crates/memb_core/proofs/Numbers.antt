-- The numbers in a list, before and after a change.
use Rattle.memb_core.proofs.Words.{◌≡◌, ◌≢◌, ℕ, zero, suc, ◌≤◌, ◌<◌, ◌⊎◌, inl, inr, true, false, List, [], ◌∷◌, ◌++◌, length, eqb, refl, sym, arith, Some, None, slice_get, slice_get-get_or, position, position_or_len, position-Some, eqb-true, cases_Bool, cases_eq, cond-true, lt-ltb, false≢true, if◌then◌else◌, has_number, without, tail_of, put_behind, head_of, popped, chopped, AreDistinct}

module _ (b : ℕ) where
  pub has_first : (list : List ℕ) → has_number b (b ∷ list) ≡ true
  has_first list = grind arith

  -- numbers differ if a list has only one of them
  pub differ : (c : ℕ) (list : List ℕ) → has_number b list ≡ true → has_number c list ≡ false → b ≢ c
  differ c list had none e = grind arith

  module _ (x : ℕ) where
    module _ (list : List ℕ) where
      pub has_later : has_number b list ≡ true → has_number b (x ∷ list) ≡ true
      has_later h = grind arith

      pub has_cases : has_number b (x ∷ list) ≡ true → (x ≡ b) ⊎ (has_number b list ≡ true)
      has_cases h = grind arith

      pub none_parts : has_number b (x ∷ list) ≡ false → (x ≢ b) × (has_number b list ≡ false)
      none_parts h = grind arith

      pub none_from : x ≢ b → has_number b list ≡ false → has_number b (x ∷ list) ≡ false
      none_from ne none = grind arith

tail_later : (x y : ℕ) (list : List ℕ) → tail_of (x ∷ (y ∷ list)) ≡ tail_of (y ∷ list)
tail_later x y list = grind arith

chopped_later : (x y : ℕ) (list : List ℕ) → chopped (x ∷ (y ∷ list)) ≡ x ∷ chopped (y ∷ list)
chopped_later x y list = grind arith

only : (x t : ℕ) → tail_of (x ∷ []) ≡ Some t → x ≡ t
only x t e = cc

pub no_tail : (list : List ℕ) → tail_of list ≡ None → list ≡ []
no_tail [] e = refl
no_tail (x ∷ list) e = absurd (grind (arith, slice_get-get_or (x ∷ list) (length list) 0 (omega arith)))

module _ (b : ℕ) where
  pub without_none : (list : List ℕ) → has_number b list ≡ false → without b list ≡ list
  without_none [] none = refl
  without_none (x ∷ list) none = grind (arith, without_none list)

  module _ (x : ℕ) where
    module _ (list : List ℕ) where
      without_first : x ≡ b → without b (x ∷ list) ≡ without b list
      without_first e = grind arith

      without_later : x ≢ b → without b (x ∷ list) ≡ x ∷ without b list
      without_later ne = grind arith

  pub without_head : (list : List ℕ) → AreDistinct list → head_of list ≡ Some b → without b list ≡ popped list
  without_head [] distinct e = refl
  without_head (x ∷ list) distinct e = grind (arith, without_none)

  -- a number stays if it was there, and is another one
  pub has_left : (c : ℕ) (list : List ℕ) → has_number c (without b list) ≡ (if eqb b c then false else has_number c list)
  has_left c [] = grind arith
  has_left c (x ∷ list) = grind (arith, has_left c list)

  pub distinct_left : (list : List ℕ) → AreDistinct list → AreDistinct (without b list)
  distinct_left [] distinct = tt
  distinct_left (x ∷ list) distinct = grind (arith, cases_eq, without_first, without_later, has_left, distinct_left list distinct.1)

-- at most one number is removed, so distinct numbers below n are at most n
length-left : (b : ℕ) (list : List ℕ) → AreDistinct list → length list ≤ suc (length (without b list))
length-left b [] distinct = omega arith
length-left b (x ∷ list) distinct = grind (arith, cases_eq, without_first, without_later, without_none, length-left b list distinct.1)

pub at_most : (n : ℕ) (list : List ℕ) → AreDistinct list → ((b : ℕ) → has_number b list ≡ true → b < n) → length list ≤ n
at_most zero [] distinct below = omega arith
at_most zero (x ∷ list) distinct below = absurd (omega (arith, below x (has_first x list)))
at_most (suc n) list distinct below =
    omega (
      arith,
      length-left n list distinct,
      at_most n (without n list) (distinct_left n list distinct)
          (λ b had. grind (arith, has_left n b list)),
    )

pub has_at : (i b : ℕ) (list : List ℕ) → slice_get list i ≡ Some b → has_number b list ≡ true
has_at i b [] at = absurd (cc)
has_at zero b (x ∷ list) at = grind arith
has_at (suc i) b (x ∷ list) at = has_later b x list (has_at i b list at)

module _ (b : ℕ) where
  place_below : (list : List ℕ) → has_number b list ≡ true → position_or_len (λ other. eqb other b) list < length list
  place_below [] had = absurd (cc)
  place_below (x ∷ list) had = grind (arith, place_below list)

  pub no_place : (list : List ℕ) → position (λ other. eqb other b) list ≡ None → has_number b list ≡ false
  no_place list none = grind (arith, cond-true, lt-ltb, place_below)

  pub found : (place : ℕ) (list : List ℕ) → Some place ≡ position (λ other. eqb other b) list → slice_get list place ≡ Some b
  found place list e = grind (arith, eqb-true, slice_get-get_or, position-Some (λ other. eqb other b) list place 0 (sym e))

module _ (prev : ℕ) where
  module _ (b : ℕ) where
    module _ (x : ℕ) (list : List ℕ) where
      pub behind_here : x ≡ prev → put_behind prev b (x ∷ list) ≡ x ∷ (b ∷ list)
      behind_here e = grind arith

      pub behind_later : x ≢ prev → put_behind prev b (x ∷ list) ≡ x ∷ put_behind prev b list
      behind_later ne = grind arith

    pub had_behind : (c : ℕ) (list : List ℕ) → has_number c (put_behind prev b list) ≡ true → (b ≡ c) ⊎ (has_number c list ≡ true)
    had_behind c [] h = inr h
    had_behind c (x ∷ list) h' = grind (arith, had_behind c list)

    pub distinct_behind : (list : List ℕ) → has_number b list ≡ false → AreDistinct list → AreDistinct (put_behind prev b list)
    distinct_behind [] none distinct = tt
    distinct_behind (x ∷ list) none distinct = let later = distinct_behind list in
        elim (cases_eq x prev) [
          | inl e ↦ rw (behind_here x list e) (grind (arith, none_from, cases_Bool, false≢true))
          | inr ne ↦ rw (behind_later x list ne) (grind (arith, none_from, cases_Bool, had_behind, false≢true))
        ]

module _ (t b : ℕ) where
  pub at_tail : (list : List ℕ) → AreDistinct list → tail_of list ≡ Some t
      → (has_number t list ≡ true) × (put_behind t b list ≡ list ++ b ∷ []) × (without t list ≡ chopped list)
  at_tail [] distinct e = absurd (cc)
  at_tail (x ∷ []) distinct e = grind (arith, behind_here, without_first)
  at_tail (x ∷ (y ∷ list)) distinct e = grind (
    arith,
    tail_later,
    behind_later,
    without_later,
    differ,
    chopped_later,
    at_tail
        (y ∷ list) distinct.1,
  )
