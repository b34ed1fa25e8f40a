use Rattle.pictures.specs.Rows.{AreAgain, bytes_of}
use Rattle.pictures.proofs.rows.folding.are_again.Given as goal

abbrev pub invariant-loop-index : goal.invariant-loop-index
invariant-loop-index l = AreAgain (bytes_of l.lines) l.count l.at l.index
