-- One node of a row is set.
use Rattle.std.proofs.Common.{◌≡◌, ◌≢◌, ℕ, zero, suc, ◌+◌, ◌/◌, ◌<◌, ◌≤◌, List, [], ◌∷◌, length, drop, set, refl, sym, ◌∙◌, arith, Bool, true, false, ◌==◌}
use Rattle.std.proofs.lemmas.List.{get_or-set_other, get_or-set_same}
use Rattle.std.proofs.lemmas.Bool.Decides.{nat_tests}
use Rattle.network_session.specs.declared.alarm.Alarm.{Alarm}
use Rattle.network_session.specs.Code.Tournaments.{IsWon, earlier_of, no_alarm, node_of}

module _ (nodes : List Alarm) (at : ℕ) (x : Alarm) where
  other : (k : ℕ) → k ≢ at → node_of (set nodes at x) k ≡ node_of nodes k
  other k apart = get_or-set_other nodes at k x no_alarm apart

  -- a game of which no node was set
  kept : (k : ℕ) → k ≢ at → k + k ≢ at → k + k + 1 ≢ at → IsWon nodes k → IsWon (set nodes at x) k
  kept k a b c won = rw (other k a, other (k + k) b, other (k + k + 1) c) won

  -- the game that was played
  played : 1 ≤ at → at < length nodes → x ≡ earlier_of (node_of nodes (at + at)) (node_of nodes (at + at + 1)) → IsWon (set nodes at x) at
  played some within is =
      get_or-set_same nodes at x no_alarm within ∙ (is
      ∙ sym (rw (other (at + at) (omega (arith, some)), other (at + at + 1) (omega (arith, some))) refl))

  -- up: the game above is out of date
  pub climbed : (count : ℕ) → 1 ≤ at → at < length nodes → x ≡ earlier_of (node_of nodes (at + at)) (node_of nodes (at + at + 1)) →
      ((k : ℕ) → 1 ≤ k → k < count → k ≢ at → IsWon nodes k) →
      (k : ℕ) → 1 ≤ k → k < count → k ≢ at / 2 → IsWon (set nodes at x) k
  climbed count some within is won k low high apart = by_test (k == at) refl
    where
      by_test : (b : Bool) → (k == at) ≡ b → IsWon (set nodes at x) k
      by_test true e =
          let same : k ≡ at = grind (arith, nat_tests) in
          rw same (played some within is)
      by_test false e =
          let differs : k ≢ at = grind (arith, nat_tests) in
          kept k differs (omega (arith, apart)) (omega (arith, apart)) (won k low high differs)

  -- down: those below were played
  pub stepped : (count : ℕ) → 1 ≤ at → at < length nodes → x ≡ earlier_of (node_of nodes (at + at)) (node_of nodes (at + at + 1)) →
      ((k : ℕ) → at + 1 ≤ k → k < count → IsWon nodes k) →
      (k : ℕ) → at ≤ k → k < count → IsWon (set nodes at x) k
  stepped count some within is won k low high = by_test (k == at) refl
    where
      by_test : (b : Bool) → (k == at) ≡ b → IsWon (set nodes at x) k
      by_test true e =
          let same : k ≡ at = grind (arith, nat_tests) in
          rw same (played some within is)
      by_test false e =
          let differs : k ≢ at = grind (arith, nat_tests) in
          let above : at + 1 ≤ k = omega (arith, low, differs) in
          kept k differs (omega (arith, above)) (omega (arith, above)) (won k above high)

-- a node that didn't change leaves those above right
pub settled : (nodes : List Alarm) (count at : ℕ) → IsWon nodes at → ((k : ℕ) → 1 ≤ k → k < count → k ≢ at → IsWon nodes k) →
    (k : ℕ) → 1 ≤ k → k < count → IsWon nodes k
settled nodes count at game won k low high = by_test (k == at) refl
  where
    by_test : (b : Bool) → (k == at) ≡ b → IsWon nodes k
    by_test true e =
        let same : k ≡ at = grind (arith, nat_tests) in
        rw same game
    by_test false e = won k low high (grind (arith, nat_tests))

-- the players
pub players_kept : (nodes : List Alarm) (count at : ℕ) (x : Alarm) → at < count → drop count (set nodes at x) ≡ drop count nodes
players_kept [] zero at x h = absurd (omega (arith, h))
players_kept [] (suc count) at x h = refl
players_kept (y ∷ nodes) zero at x h = absurd (omega (arith, h))
players_kept (y ∷ nodes) (suc count) zero x h = refl
players_kept (y ∷ nodes) (suc count) (suc at) x h = players_kept nodes count at x (omega (arith, h))

pub player_set : (nodes : List Alarm) (count owner at : ℕ) (x : Alarm) → at ≡ count + owner → drop count (set nodes at x) ≡ set (drop count nodes) owner x
player_set nodes zero owner at x h = let same : at ≡ owner = omega (arith, h) in rw same refl
player_set [] (suc count) owner at x h = refl
player_set (y ∷ nodes) (suc count) owner zero x h = absurd (omega (arith, h))
player_set (y ∷ nodes) (suc count) owner (suc at) x h = player_set nodes count owner at x (omega (arith, h))
