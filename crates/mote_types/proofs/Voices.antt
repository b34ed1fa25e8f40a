-- What a list of applications says after one changed.
use Rattle.std.proofs.Common.{◌≡◌, ◌≢◌, ◌<◌, ◌≤◌, ◌+◌, ◌-◌, ℕ, zero, suc, nat_lt, List, [], ◌∷◌, length, get_or, slice_get, slice_set, refl, ap, arith, true, false, Bool, le-ltb, ltb-false, ◌∙◌}
use Rattle.mote_types.specs.declared.event.Stimulus.{Stimulus}
use Rattle.mote_types.specs.declared.call.Call.{Call}
use Rattle.mote_types.specs.Applications.{nth_says, says_of}

module _ {B : Type 0} (says : B → List Stimulus → Call) where
  pub nth_says_at : (apps : List B) (i : ℕ) (b : B) (l : List Stimulus) → i < length apps
      → nth_says says apps i l ≡ says (get_or apps i b) l
  nth_says_at [] i b l h = absurd (omega arith)
  nth_says_at (x ∷ apps) zero b l h = refl
  nth_says_at (x ∷ apps) (suc i) b l h = nth_says_at apps i b l (omega arith)

  pub nth_says_set : (apps : List B) (i : ℕ) (b : B) (l : List Stimulus) → i < length apps
      → nth_says says (slice_set apps i b) i l ≡ says b l
  nth_says_set [] i b l h = absurd (omega arith)
  nth_says_set (x ∷ apps) zero b l h = refl
  nth_says_set (x ∷ apps) (suc i) b l h = nth_says_set apps i b l (omega arith)

  pub nth_says_set_other : (apps : List B) (i j : ℕ) (b : B) (l : List Stimulus) → j ≢ i
      → nth_says says (slice_set apps i b) j l ≡ nth_says says apps j l
  nth_says_set_other [] i j b l h = refl
  nth_says_set_other (x ∷ apps) zero zero b l h = absurd (h refl)
  nth_says_set_other (x ∷ apps) zero (suc j) b l h = refl
  nth_says_set_other (x ∷ apps) (suc i) zero b l h = refl
  nth_says_set_other (x ∷ apps) (suc i) (suc j) b l h = nth_says_set_other apps i j b l (λ e. h (ap suc e))

  -- an application's number is 4 more than its position
  pub says_of_application : (apps : List B) (p : ℕ) (l : List Stimulus) → 4 ≤ p → says_of says apps p l ≡ nth_says says apps (p - 4) l
  says_of_application apps p l h = rw (le-ltb p 4 h)

  pub says_of_at : (apps : List B) (p : ℕ) (b : B) (l : List Stimulus) → 4 ≤ p → p < 4 + length apps →
      says_of says apps p l ≡ says (get_or apps (p - 4) b) l
  says_of_at apps p b l h present = says_of_application apps p l h ∙ nth_says_at apps (p - 4) b l (omega arith)

  pub says_of_set : (apps : List B) (p : ℕ) (b : B) (l : List Stimulus) → 4 ≤ p → p < 4 + length apps →
      says_of says (slice_set apps (p - 4) b) p l ≡ says b l
  says_of_set apps p b l h present =
      says_of_application (slice_set apps (p - 4) b) p l h ∙ nth_says_set apps (p - 4) b l (omega arith)

  says_of_other : (apps : List B) (p q : ℕ) (b : B) (l : List Stimulus) (is_kernel : Bool) → nat_lt p 4 ≡ is_kernel → 4 ≤ q → p ≢ q →
      says_of says (slice_set apps (q - 4) b) p l ≡ says_of says apps p l
  says_of_other apps p q b l true e h ne = rw e
  says_of_other apps p q b l false e h ne =
      let least : 4 ≤ p = ltb-false p 4 e in
      let apart : p - 4 ≢ q - 4 = λ same. ne (omega (arith, same)) in
      rw (e, nth_says_set_other apps (q - 4) (p - 4) b l apart)

  pub says_of_set_other : (apps : List B) (p q : ℕ) (b : B) (l : List Stimulus) → 4 ≤ q → p ≢ q →
      says_of says (slice_set apps (q - 4) b) p l ≡ says_of says apps p l
  says_of_set_other apps p q b l h ne = says_of_other apps p q b l (nat_lt p 4) refl h ne

pub slice_get_set_other : {X : Type 0} (xs : List X) (i j : ℕ) (x : X) → j ≢ i → slice_get (slice_set xs i x) j ≡ slice_get xs j
slice_get_set_other [] i j b h = refl
slice_get_set_other (x ∷ xs) zero zero b h = absurd (h refl)
slice_get_set_other (x ∷ xs) zero (suc j) b h = refl
slice_get_set_other (x ∷ xs) (suc i) zero b h = refl
slice_get_set_other (x ∷ xs) (suc i) (suc j) b h = slice_get_set_other xs i j b (λ e. h (ap suc e))
