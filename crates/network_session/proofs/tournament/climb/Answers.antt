use Rattle.std.proofs.Common.{◌≡◌, sym, ◌∙◌, arith, List}
use Rattle.std.proofs.lemmas.Bool.Decides.{nat_tests}
use Rattle.std.proofs.lemmas.List.{length-set}
use Rattle.network_session.specs.declared.alarm.Alarm.{Alarm}
use Rattle.network_session.proofs.Climbing.{climbed, players_kept, settled}
use Rattle.network_session.proofs.Root.{read, winner_is}
use Rattle.network_session.proofs.tournament.climb.Goals as goal

pub loop-at-preserved : goal.loop-at-preserved
loop-at-preserved c =
    let h = c.loop-at.invariant in
    let nodes : List Alarm = c.loop-at.nodes.items in
    let at = c.loop-at.at in
    let won = winner_is nodes at _ _ c.index.result.now c.index-in-loop-at.result.now c.earlier-winner.result c.index.ensures c.index-in-loop-at.ensures
    c.earlier-winner.ensures (omega arith) (omega arith) (omega (arith, h.size, h.inner)) in
    record {
      size = length-set nodes at c.earlier-winner.result ∙ h.size;
      inner = omega (arith, h.inner);
      won = climbed nodes at c.earlier-winner.result c.args.count (omega (arith, c.loop-at-test.true)) (omega (arith, h.size, h.inner)) won h.won;
      players = players_kept nodes c.args.count at c.earlier-winner.result h.inner ∙ h.players;
    }

pub returns-then-eq-clause-won : goal.returns-then-eq-clause-won
returns-then-eq-clause-won c =
    let h = c.loop-at.invariant in
    let nodes : List Alarm = c.loop-at.nodes.items in
    let at = c.loop-at.at in
    let won = winner_is nodes at _ _ c.index.result.now c.index-in-loop-at.result.now c.earlier-winner.result c.index.ensures c.index-in-loop-at.ensures
    c.earlier-winner.ensures (omega arith) (omega arith) (omega (arith, h.size, h.inner)) in
    let own = read nodes _ at c.index-in-loop-at-2.result.now c.index-in-loop-at-2.ensures (omega arith) (omega (arith, h.size, h.inner)) in
    let same : c.index-in-loop-at-2.result.now ≡ c.earlier-winner.result =
    let test = c.eq.ensures in let equal = c.if-eq.true in grind (arith, nat_tests) in
    settled nodes c.args.count at (sym own ∙ (same ∙ won)) h.won
