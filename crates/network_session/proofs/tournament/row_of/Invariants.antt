use Rattle.network_session.specs.Code.Tournaments.{IsRow}
use Rattle.network_session.proofs.tournament.row_of.Given as goal

abbrev pub invariant-loop-at : goal.invariant-loop-at
invariant-loop-at l = IsRow l.moments l.at l.nodes.items
