-- The order of the frames in flight, and what is over one link.
use Rattle.std.proofs.Common.{◌≡◌, ℕ, ◌<◌, ◌≤◌, List, [], ◌∷◌, ◌++◌, refl, ap, sym, ◌∙◌, arith, Bool, true, false, nat_lt, if◌then◌else◌, append_assoc, append-nil}
use Rattle.std.proofs.lemmas.Bool.Decides.{nat_tests}
use Rattle.std.specs.List.{AllByRecursion}
use Rattle.medium_core.specs.declared.flight.Flight.{Flight}
use Rattle.medium_core.specs.Code.Queue.{InOrder}
use Rattle.medium_core.specs.Flights.{with_flight, with_flights}
use Rattle.medium_core.specs.Laws.{is_over, over}

pub all_weaker : {X : Type 0} (P Q : X → Type 0) → ((x : X) → P x → Q x) → (xs : List X) → AllByRecursion P xs → AllByRecursion Q xs
all_weaker P Q h [] all = tt
all_weaker P Q h (x ∷ xs) all = (h x all.0, all_weaker P Q h xs all.1)

-- by whether f is earlier
pub all_with : (P : Flight → Type 0) (f : Flight) (flights : List Flight) → P f → AllByRecursion P flights → AllByRecursion P (with_flight f flights)
all_with P f [] own all = (own, tt)
all_with P f (g ∷ flights) own all = by_test (nat_lt f.due g.due) (all_with P f flights own all.1)
  where
    by_test : (b : Bool) → AllByRecursion P (with_flight f flights) → AllByRecursion P (if b then f ∷ g ∷ flights else g ∷ with_flight f flights)
    by_test true rest = (own, (all.0, all.1))
    by_test false rest = (all.0, rest)

pub order_with : (f : Flight) (flights : List Flight) → InOrder flights → InOrder (with_flight f flights)
order_with f [] order = (tt, tt)
order_with f (g ∷ flights) order = by_test (nat_lt f.due g.due) refl (order_with f flights order.1)
  where
    by_test : (b : Bool) → nat_lt f.due g.due ≡ b → InOrder (with_flight f flights) → InOrder (if b then f ∷ g ∷ flights else g ∷ with_flight f flights)
    by_test true e rest =
        let before : f.due < g.due = grind (arith, nat_tests) in
        ((omega arith, all_weaker (λ (h : Flight). g.due ≤ h.due) (λ (h : Flight). f.due ≤ h.due) (λ h le. omega (arith, le)) flights order.0), order)
    by_test false e rest =
        let after : g.due ≤ f.due = grind (arith, nat_tests) in
        (all_with (λ (h : Flight). g.due ≤ h.due) f flights after order.0, rest)

pub order_with_all : (more flights : List Flight) → InOrder flights → InOrder (with_flights more flights)
order_with_all [] flights order = order
order_with_all (f ∷ more) flights order = order_with_all more (with_flight f flights) (order_with f flights order)

pub all_with_all : (P : Flight → Type 0) (more flights : List Flight) → AllByRecursion P more → AllByRecursion P flights → AllByRecursion P (with_flights more flights)
all_with_all P [] flights new old = old
all_with_all P (f ∷ more) flights new old = all_with_all P more (with_flight f flights) new.1 (all_with P f flights new.0 old)

module _ (m position : ℕ) where
  -- what is over the link arrives until then
  abbrev pub Near : ℕ → Flight → Type 0
  Near due f = is_over m position f ≡ true → f.due ≤ due

  -- or just then
  abbrev pub At : ℕ → Flight → Type 0
  At due f = is_over m position f ≡ true → f.due ≡ due

  -- none is over the link where all are later
  none_later : (due : ℕ) (flights : List Flight) → AllByRecursion (Near due) flights → AllByRecursion (λ (g : Flight). due < g.due) flights → over m position flights ≡ []
  none_later due [] near later = refl
  none_later due (g ∷ flights) near later = by_test (is_over m position g) refl (none_later due flights near.1 later.1)
    where
      by_test : (b : Bool) → is_over m position g ≡ b → over m position flights ≡ [] → (if b then g ∷ over m position flights else over m position flights) ≡ []
      by_test true e rest = let early = near.0 e in absurd (omega (arith, early, later.0))
      by_test false e rest = rest

  pub over_with : (due : ℕ) (f : Flight) (flights : List Flight) → InOrder flights → AllByRecursion (Near due) flights → At due f →
      over m position (with_flight f flights) ≡ over m position flights ++ over m position (f ∷ [])
  over_with due f [] order near at = refl
  over_with due f (g ∷ flights) order near at = by_tests (nat_lt f.due g.due) (is_over m position f) (is_over m position g) refl refl refl (over_with due f flights order.1 near.1 at)
    where
      tail : List Flight
      tail = over m position flights

      by_tests : (b o p : Bool) → nat_lt f.due g.due ≡ b → is_over m position f ≡ o → is_over m position g ≡ p →
          over m position (with_flight f flights) ≡ over m position flights ++ over m position (f ∷ []) →
          over m position (if b then f ∷ g ∷ flights else g ∷ with_flight f flights) ≡ over m position (g ∷ flights) ++ over m position (f ∷ [])
      by_tests true true p e h k rest =
          let before : f.due < g.due = grind (arith, nat_tests) in
          let when = at h in
          let later = all_weaker (λ (x : Flight). g.due ≤ x.due) (λ (x : Flight). due < x.due) (λ x le. omega (arith, le, when, before)) flights order.0 in
          let none : over m position (g ∷ flights) ≡ [] = none_later due (g ∷ flights) near (omega (arith, when, before), later) in
          rw h (ap (λ l. f ∷ l) none ∙ sym (ap (λ (l : List Flight). l ++ f ∷ []) none))
      by_tests true false p e h k rest = rw h (sym (append-nil (over m position (g ∷ flights))))
      by_tests false o true e h k rest = rw k (ap (λ l. g ∷ l) rest)
      by_tests false o false e h k rest = rw k rest

  pub over_with_all : (due : ℕ) (more flights : List Flight) → InOrder flights → AllByRecursion (Near due) flights → AllByRecursion (At due) more →
      over m position (with_flights more flights) ≡ over m position flights ++ over m position more
  over_with_all due [] flights order near at = sym (append-nil (over m position flights))
  over_with_all due (f ∷ more) flights order near at =
      let near_f : Near due f = λ h. omega (arith, at.0 h) in
      over_with_all due more (with_flight f flights) (order_with f flights order) (all_with (Near due) f flights near_f near) at.1
      ∙ (ap (λ (l : List Flight). l ++ over m position more) (over_with due f flights order near at.0)
      ∙ (append_assoc (over m position flights) (over m position (f ∷ [])) (over m position more)
      ∙ ap (λ (l : List Flight). over m position flights ++ l) (split f more)))
    where
      split : (f : Flight) (more : List Flight) → over m position (f ∷ []) ++ over m position more ≡ over m position (f ∷ more)
      split f more = by_test (is_over m position f) refl
        where
          by_test : (b : Bool) → is_over m position f ≡ b → over m position (f ∷ []) ++ over m position more ≡ over m position (f ∷ more)
          by_test true e = rw e refl
          by_test false e = rw e refl
