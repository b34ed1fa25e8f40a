use Rattle.pictures.specs.Rows.{bytes_of}
use Rattle.pictures.proofs.rows.folding.next_row.Goals as goal

pub returns-clause-again : goal.returns-clause-again
returns-clause-again c = c.row_in_front.ensures.again (bytes_of c.args.lines.now)
