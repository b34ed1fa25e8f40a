use Rattle.std.proofs.Common.{◌≡◌, ◌≢◌, ℕ, ◌+◌, ◌<◌, ◌≤◌, drop, length}
use Rattle.network_session.specs.Code.Tournaments.{IsWon}
use Rattle.network_session.proofs.tournament.climb.Given as goal

abbrev pub invariant-loop-at : goal.invariant-loop-at
invariant-loop-at l =
    record {
      size : length l.nodes.items ≡ l.count + l.count;
      inner : l.at < l.count;
      won : (k : ℕ) → 1 ≤ k → k < l.count → k ≢ l.at → IsWon l.nodes.items k;
      players : drop l.count l.nodes.items ≡ drop l.count l.initial.nodes.items;
    }

abbrev pub decreases-loop-at : goal.decreases-loop-at
decreases-loop-at l = l.at
