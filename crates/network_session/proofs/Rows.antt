-- A row where no game was played.
use Rattle.std.proofs.Common.{◌≡◌, ◌≢◌, ℕ, ◌+◌, ◌-◌, ◌<◌, List, [], ◌∷◌, ◌++◌, length, drop, get_or, refl, ap, sym, ◌∙◌, arith, length-append, Bool, true, false, ◌==◌, nat_lt, if◌then◌else◌}
use Rattle.std.proofs.lemmas.Bool.Decides.{nat_tests}
use Rattle.std.proofs.lemmas.List.{ext_get_or, get_or-append-add, get_or-drop, get_or-map, get_or_append_left, length-drop, length-map}
use Rattle.network_session.specs.declared.alarm.Alarm.{Alarm}
use Rattle.network_session.specs.Code.Tournaments.{IsRow, moments_in, no_alarm, node_of, player_at}

pub row_more : (moments : List ℕ) (count : ℕ) (nodes : List Alarm) (x : Alarm) → IsRow moments count nodes → x ≡ player_at moments count →
    IsRow moments (count + 1) (nodes ++ x ∷ [])
row_more moments count nodes x row is = record {
  size = let e = length-append nodes (x ∷ []) in let s = row.size in omega (arith, e, s);
  each = λ k h. by_test k (k == count) refl h;
}
  where
    by_test : (k : ℕ) (b : Bool) → (k == count) ≡ b → k < count + 1 → node_of (nodes ++ x ∷ []) k ≡ player_at moments k
    by_test k true e h =
        let same : k ≡ count = grind (arith, nat_tests) in
        let at_end : k ≡ length nodes + 0 = let s = row.size in omega (arith, same, s) in
        ap (λ (j : ℕ). get_or (nodes ++ x ∷ []) j no_alarm) at_end ∙ (get_or-append-add nodes (x ∷ []) 0 no_alarm ∙ (is ∙ ap (player_at moments) (sym same)))
    by_test k false e h =
        let differs : k ≢ count = grind (arith, nat_tests) in
        let below : k < count = omega (arith, differs, h) in
        get_or_append_left nodes (x ∷ []) no_alarm k (let s = row.size in omega (arith, below, s)) ∙ row.each k below

player_there : (moments : List ℕ) (m : ℕ) → player_at moments (length moments + m) ≡ record { moment = get_or moments m 0; owner = m }
player_there moments m = by_test (nat_lt (length moments + m) (length moments)) refl
  where
    by_test : (b : Bool) → nat_lt (length moments + m) (length moments) ≡ b →
        (if b then no_alarm else record { moment = get_or moments (length moments + m - length moments) 0; owner = length moments + m - length moments })
        ≡ record { moment = get_or moments m 0; owner = m }
    by_test true e = absurd (let h : length moments + m < length moments = grind (arith, nat_tests) in omega (arith, h))
    by_test false e = let same : length moments + m - length moments ≡ m = omega arith in rw same refl

pub row_numbered : (moments : List ℕ) (nodes : List Alarm) → IsRow moments (length moments + length moments) nodes →
    (m : ℕ) → m < length moments → node_of nodes (length moments + m) ≡ record { moment = get_or moments m 0; owner = m }
row_numbered moments nodes row m h = row.each (length moments + m) (omega (arith, h)) ∙ player_there moments m

pub length_moments : (count : ℕ) (nodes : List Alarm) → length nodes ≡ count + count → length (moments_in count nodes) ≡ count
length_moments count nodes size =
    length-map (drop count nodes) (λ (a : Alarm). a.moment) ∙ (let e = length-drop count nodes in omega (arith, e, size))

pub moment_at : (count : ℕ) (nodes : List Alarm) (m : ℕ) → length nodes ≡ count + count → m < count →
    get_or (moments_in count nodes) m 0 ≡ (node_of nodes (count + m)).moment
moment_at count nodes m size h =
    get_or-map (λ (a : Alarm). a.moment) (drop count nodes) m no_alarm 0 (let e = length-drop count nodes in omega (arith, e, size, h))
    ∙ ap (λ (a : Alarm). a.moment) (get_or-drop count nodes m no_alarm)

pub row_moments : (moments : List ℕ) (nodes : List Alarm) → IsRow moments (length moments + length moments) nodes →
    moments_in (length moments) nodes ≡ moments
row_moments moments nodes row =
    let size = length_moments (length moments) nodes row.size in
    ext_get_or 0 (moments_in (length moments) nodes) moments size
    (λ i h. moment_at (length moments) nodes i row.size (omega (arith, h, size)) ∙ ap (λ (a : Alarm). a.moment) (row_numbered moments nodes row i (omega (arith, h, size))))
