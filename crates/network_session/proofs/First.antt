-- The root of a tournament is the first of the earliest moment.
use Rattle.std.proofs.Common.{◌≡◌, ◌≢◌, ℕ, zero, suc, ◌+◌, ◌/◌, ◌-◌, ◌<◌, ◌≤◌, List, [], ◌∷◌, length, get_or, refl, ap, sym, subst, ◌∙◌, arith, Bool, true, false, ◌==◌, nat_le, nat_lt, Option, Some, None, if◌then◌else◌}
use Rattle.std.proofs.lemmas.Bool.Decides.{nat_tests}
use Rattle.network_session.specs.declared.alarm.Alarm.{Alarm}
use Rattle.network_session.specs.Alarms.{first_alarm, sooner}
use Rattle.network_session.specs.Code.Tournaments.{IsWon, earlier_of, is_earlier, node_of}

-- a is no later than b, and of one moment it has the lower number
pub record Leads (a b : Alarm) : Type 0 where
  pub moment : a.moment ≤ b.moment
  pub owner : a.moment ≡ b.moment → a.owner ≤ b.owner

leads_self : (a : Alarm) → Leads a a
leads_self a = record { moment = omega arith; owner = λ e. omega arith }

leads_on : (a b c : Alarm) → Leads a b → Leads b c → Leads a c
leads_on a b c p q = record {
  moment = omega (arith, p.moment, q.moment);
  owner = λ e. omega (arith, p.owner (omega (arith, p.moment, q.moment, e)), q.owner (omega (arith, p.moment, q.moment, e)));
}

-- the winner leads both
leads_left : (a b : Alarm) → Leads (earlier_of a b) a
leads_left a b = by_test (is_earlier a b) refl
  where
    by_test : (t : Bool) → is_earlier a b ≡ t → Leads (if t then a else b) a
    by_test true e = leads_self a
    by_test false e = record { moment = grind (arith, nat_tests); owner = λ same. grind (arith, nat_tests) }

leads_right : (a b : Alarm) → Leads (earlier_of a b) b
leads_right a b = by_test (is_earlier a b) refl
  where
    by_test : (t : Bool) → is_earlier a b ≡ t → Leads (if t then a else b) b
    by_test true e = record { moment = grind (arith, nat_tests); owner = λ same. grind (arith, nat_tests) }
    by_test false e = leads_self b

one_of : (a b : Alarm) (P : Alarm → Type 0) → P a → P b → P (earlier_of a b)
one_of a b P p q = by_test (is_earlier a b)
  where
    by_test : (t : Bool) → P (if t then a else b)
    by_test true = p
    by_test false = q

module _ (count : ℕ) (nodes : List Alarm) (won : (k : ℕ) → 1 ≤ k → k < count → IsWon nodes k) where
  -- the root leads each node
  pub root_leads : (fuel k : ℕ) → k ≤ fuel → 1 ≤ k → k < count + count → Leads (node_of nodes 1) (node_of nodes k)
  root_leads zero k less some high = absurd (omega (arith, less, some))
  root_leads (suc fuel) k less some high = by_test (k == 1) (nat_lt (k / 2 + k / 2) k) refl refl (λ h. root_leads fuel (k / 2) (omega (arith, less, h)) (omega (arith, h)) (omega (arith, high)))
    where
      by_test : (b o : Bool) → (k == 1) ≡ b → nat_lt (k / 2 + k / 2) k ≡ o → (2 ≤ k → Leads (node_of nodes 1) (node_of nodes (k / 2))) → Leads (node_of nodes 1) (node_of nodes k)
      by_test true o e h above =
          let root : k ≡ 1 = grind (arith, nat_tests) in
          rw root (leads_self (node_of nodes 1))
      by_test false true e h above =
          let many : 2 ≤ k = let apart : k ≢ 1 = grind (arith, nat_tests) in omega (arith, apart, some) in
          let odd : k ≡ k / 2 + k / 2 + 1 = let less : k / 2 + k / 2 < k = grind (arith, nat_tests) in omega (arith, less) in
          let game = won (k / 2) (omega (arith, many)) (omega (arith, high)) in
          let own : Leads (node_of nodes (k / 2)) (node_of nodes (k / 2 + k / 2 + 1)) =
          rw game (leads_right (node_of nodes (k / 2 + k / 2)) (node_of nodes (k / 2 + k / 2 + 1))) in
          leads_on (node_of nodes 1) (node_of nodes (k / 2)) (node_of nodes k) (above many)
          (subst (λ (j : ℕ). Leads (node_of nodes (k / 2)) (node_of nodes j)) (sym odd) own)
      by_test false false e h above =
          let many : 2 ≤ k = let apart : k ≢ 1 = grind (arith, nat_tests) in omega (arith, apart, some) in
          let even : k / 2 + k / 2 ≡ k = let no_less : k ≤ k / 2 + k / 2 = grind (arith, nat_tests) in omega (arith, no_less) in
          let game = won (k / 2) (omega (arith, many)) (omega (arith, high)) in
          let own : Leads (node_of nodes (k / 2)) (node_of nodes (k / 2 + k / 2)) =
          rw game (leads_left (node_of nodes (k / 2 + k / 2)) (node_of nodes (k / 2 + k / 2 + 1))) in
          leads_on (node_of nodes 1) (node_of nodes (k / 2)) (node_of nodes k) (above many)
          (subst (λ (j : ℕ). Leads (node_of nodes (k / 2)) (node_of nodes j)) even own)

  -- a player that a node is
  pub record Player (x : Alarm) : Type 0 where
    pub m : ℕ
    pub within : m < count
    pub is : x ≡ node_of nodes (count + m)

  pub some_player : (fuel k : ℕ) → count + count ≤ k + fuel → 1 ≤ k → k < count + count → Player (node_of nodes k)
  some_player zero k far some high = absurd (omega (arith, far, high))
  some_player (suc fuel) k far some high =
      by_test (nat_lt k count) refl (λ j more below. some_player fuel j (omega (arith, far, more)) (omega (arith, more)) below)
    where
      by_test : (b : Bool) → nat_lt k count ≡ b → ((j : ℕ) → k < j → j < count + count → Player (node_of nodes j)) → Player (node_of nodes k)
      by_test true e below =
          let inner : k < count = grind (arith, nat_tests) in
          rw (won k some inner) (one_of (node_of nodes (k + k)) (node_of nodes (k + k + 1)) Player
          (below (k + k) (omega (arith, some)) (omega (arith, inner))) (below (k + k + 1) (omega arith) (omega (arith, inner))))
      by_test false e below =
          let outer : count ≤ k = grind (arith, nat_tests) in
          record {
            m = k - count;
            within = omega (arith, outer, high);
            is = ap (node_of nodes) (omega (arith, outer));
          }

-- the first alarm of a list is one of it
record IsIn (i : ℕ) (moments : List ℕ) (a : Alarm) : Type 0 where
  place : ℕ
  within : place < length moments
  is : a ≡ record { moment = get_or moments place 0; owner = i + place }

in_next : (i : ℕ) (moment : ℕ) (moments : List ℕ) (a : Alarm) → IsIn (i + 1) moments a → IsIn i (moment ∷ moments) a
in_next i moment moments a h = record {
  place = suc h.place;
  within = let w = h.within in omega (arith, w);
  is = h.is ∙ ap (λ (k : ℕ). record { moment = get_or moments h.place 0; owner = k }) (omega arith);
}

found : (i : ℕ) (moments : List ℕ) (a : Alarm) → first_alarm i moments ≡ Some a → IsIn i moments a
found i [] a h = absurd (cc)
found i (moment ∷ moments) a h = by_option (first_alarm (i + 1) moments) (λ other. found (i + 1) moments other) refl h
  where
    by_option : (o : Option Alarm) → ((other : Alarm) → first_alarm (i + 1) moments ≡ Some other → IsIn (i + 1) moments other) →
        first_alarm (i + 1) moments ≡ o → Some (sooner (record { moment = moment; owner = i }) o) ≡ Some a → IsIn i (moment ∷ moments) a
    by_option None more e s =
        let same : record { moment = moment; owner = i } ≡ a = cc in
        record { place = zero; within = omega arith; is = sym same ∙ ap (λ (k : ℕ). record { moment = moment; owner = k }) (omega arith) }
    by_option (Some other) more e s = by_test (nat_le moment other.moment) s (more other e)
      where
        by_test : (b : Bool) → Some (if b then record { moment = moment; owner = i } else other) ≡ Some a → IsIn (i + 1) moments other → IsIn i (moment ∷ moments) a
        by_test true s rest =
            let same : record { moment = moment; owner = i } ≡ a = cc in
            record { place = zero; within = omega arith; is = sym same ∙ ap (λ (k : ℕ). record { moment = moment; owner = k }) (omega arith) }
        by_test false s rest = let same : other ≡ a = cc in rw (← same) (in_next i moment moments other rest)

abbrev pub alarm_at : ℕ → List ℕ → ℕ → Alarm
alarm_at i moments m = record { moment = get_or moments m 0; owner = i + m }

-- who leads all is the first alarm
pub first_is : (i : ℕ) (moments : List ℕ) (m : ℕ) → m < length moments →
    ((j : ℕ) → j < length moments → Leads (alarm_at i moments m) (alarm_at i moments j)) → first_alarm i moments ≡ Some (alarm_at i moments m)
first_is i [] m within leads = absurd (omega (arith, within))
first_is i (moment ∷ moments) zero within leads = by_option (first_alarm (i + 1) moments) refl
  where
    own : record { moment = moment; owner = i } ≡ alarm_at i (moment ∷ moments) zero
    own = ap (λ (k : ℕ). record { moment = moment; owner = k }) (omega arith)

    by_option : (o : Option Alarm) → first_alarm (i + 1) moments ≡ o → Some (sooner (record { moment = moment; owner = i }) o) ≡ Some (alarm_at i (moment ∷ moments) zero)
    by_option None e = ap (λ (a : Alarm). Some a) own
    by_option (Some other) e =
        let there = found (i + 1) moments other e in
        let lead = leads (suc there.place) (let w = there.within in omega (arith, w)) in
        let low : moment ≤ other.moment = let l = lead.moment in let e : other.moment ≡ get_or moments there.place 0 = ap (λ (a : Alarm). a.moment) there.is in omega (arith, l, e) in
        let test : nat_le moment other.moment ≡ true = grind (arith, nat_tests) in
        rw test (ap (λ (a : Alarm). Some a) own)
first_is i (moment ∷ moments) (suc m) within leads =
    let below : m < length moments = omega (arith, within) in
    let rest = first_is (i + 1) moments m below (λ j h.
    let lead = leads (suc j) (omega (arith, h)) in
    record { moment = lead.moment; owner = λ e. let o = lead.owner e in omega (arith, o) }) in
    let first = leads zero (omega arith) in
    let high : nat_le moment (get_or moments m 0) ≡ false =
    let p = first.moment in let q = first.owner in
    by_absurd (nat_le moment (get_or moments m 0)) refl (λ h. let e : get_or moments m 0 ≡ moment = omega (arith, p, h) in let o = q e in omega (arith, o)) in
    rw (rest, high) (ap (λ (k : ℕ). Some (record { moment = get_or moments m 0; owner = k })) (omega arith))
  where
    by_absurd : (b : Bool) → nat_le moment (get_or moments m 0) ≡ b → (moment ≤ get_or moments m 0 → ⊥) → b ≡ false
    by_absurd false e never = refl
    by_absurd true e never = absurd (never (grind (arith, nat_tests)))
