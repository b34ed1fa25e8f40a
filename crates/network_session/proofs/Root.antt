-- The root of a tournament is the first alarm.
use Rattle.std.proofs.Common.{◌≡◌, ℕ, zero, suc, ◌+◌, ◌<◌, ◌≤◌, List, [], ◌∷◌, length, get_or, refl, ap, sym, subst, ◌∙◌, arith, Some}
use Rattle.network_session.specs.declared.alarm.Alarm.{Alarm}
use Rattle.network_session.specs.Alarms.{first_alarm}
use Rattle.network_session.specs.Code.Tournaments.{IsTournament, earlier_of, moments_in, no_alarm, node_of}
use Rattle.network_session.proofs.First.{Leads, alarm_at, first_is, root_leads, some_player}
use Rattle.network_session.proofs.Rows.{length_moments, moment_at}

any_default : (nodes : List Alarm) (i : ℕ) (d e : Alarm) → i < length nodes → get_or nodes i d ≡ get_or nodes i e
any_default [] i d e h = absurd (omega (arith, h))
any_default (x ∷ nodes) zero d e h = refl
any_default (x ∷ nodes) (suc i) d e h = any_default nodes i d e (omega (arith, h))

-- what was read is the node
pub read : (nodes : List Alarm) (i j : ℕ) (x : Alarm) → x ≡ get_or nodes i x → i ≡ j → j < length nodes → x ≡ node_of nodes j
read nodes i j x e same h = e ∙ (ap (λ (k : ℕ). get_or nodes k x) same ∙ any_default nodes j x no_alarm h)

-- the winner of a game, of which both players were read
pub winner_is : (nodes : List Alarm) (at i j : ℕ) (left right winner : Alarm) → left ≡ get_or nodes i left → right ≡ get_or nodes j right →
    winner ≡ earlier_of left right → i ≡ at + at → j ≡ at + at + 1 → at + at + 1 < length nodes →
    winner ≡ earlier_of (node_of nodes (at + at)) (node_of nodes (at + at + 1))
winner_is nodes at i j left right winner e f is p q h =
    is ∙ (ap (λ (a : Alarm). earlier_of a right) (read nodes i (at + at) left e p (omega (arith, h)))
    ∙ ap (earlier_of (node_of nodes (at + at))) (read nodes j (at + at + 1) right f q h))

alarm_is : (a : Alarm) (moment owner : ℕ) → moment ≡ a.moment → owner ≡ a.owner → record { moment = moment; owner = owner } ≡ a
alarm_is a moment owner e f = rw (e, f) refl

pub root_first : (count : ℕ) (nodes : List Alarm) → IsTournament count nodes → 1 ≤ count → first_alarm 0 (moments_in count nodes) ≡ Some (node_of nodes 1)
root_first count nodes t some =
    let moments : List ℕ = moments_in count nodes in
    let size = length_moments count nodes t.size in
    let p = some_player count nodes t.won (count + count) 1 (omega arith) (omega arith) (omega (arith, some)) in
    let same : (j : ℕ) → j < count → alarm_at 0 moments j ≡ node_of nodes (count + j) = λ j h.
    alarm_is (node_of nodes (count + j)) (get_or moments j 0) (0 + j) (moment_at count nodes j t.size h) (let n = t.numbered j h in omega (arith, n)) in
    first_is 0 moments p.m (let w = p.within in omega (arith, w, size)) (λ j h.
    let below : j < count = omega (arith, h, size) in
    subst (λ (x : Alarm). Leads x (alarm_at 0 moments j)) (p.is ∙ sym (same p.m p.within))
    (subst (λ (y : Alarm). Leads (node_of nodes 1) y) (sym (same j below))
    (root_leads count nodes t.won (count + j) (count + j) (omega arith) (omega (arith, some)) (omega (arith, below)))))
    ∙ ap (λ (a : Alarm). Some a) (same p.m p.within ∙ sym p.is)
