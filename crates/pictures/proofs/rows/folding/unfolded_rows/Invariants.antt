use Rattle.std.proofs.Common.{All}
use Rattle.pictures.specs.Rows.{Cover, IsPlain}
use Rattle.pictures.proofs.rows.folding.unfolded_rows.Given as goal

abbrev pub invariant-loop-at : goal.invariant-loop-at
invariant-loop-at l = record { cover : Cover l.first l.rows.items l.at; plain : All IsPlain l.rows.items }
