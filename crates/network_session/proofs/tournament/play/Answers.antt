use Rattle.std.proofs.Common.{◌-◌, ◌<◌, ◌≤◌, ℕ, ◌∙◌, arith, List}
use Rattle.std.proofs.lemmas.List.{length-set}
use Rattle.network_session.specs.declared.alarm.Alarm.{Alarm}
use Rattle.network_session.proofs.Climbing.{players_kept, stepped}
use Rattle.network_session.proofs.Root.{winner_is}
use Rattle.network_session.proofs.tournament.play.Goals as goal

pub loop-at-preserved : goal.loop-at-preserved
loop-at-preserved c =
    let h = c.loop-at.invariant in
    let nodes : List Alarm = c.loop-at.nodes.items in
    let at : ℕ = c.loop-at.at - 1 in
    let some : 1 ≤ at = omega (arith, c.loop-at-test.true) in
    let inner : at < c.args.count = omega (arith, h.within, c.loop-at-test.true) in
    let won = winner_is nodes at _ _ c.index.result.now c.index-in-loop-at.result.now c.earlier.result c.index.ensures c.index-in-loop-at.ensures
    c.earlier.ensures (omega arith) (omega arith) (omega (arith, h.size, inner)) in
    record {
      size = length-set nodes at c.earlier.result ∙ h.size;
      within = omega (arith, inner);
      won = stepped nodes at c.earlier.result c.args.count some (omega (arith, h.size, inner)) won (λ k low. h.won k (omega (arith, low, some)));
      players = players_kept nodes c.args.count at c.earlier.result inner ∙ h.players;
    }
