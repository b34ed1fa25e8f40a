use Rattle.mote_run.proofs.Windows.{drop_of_range}
use Rattle.mote_run.proofs.piece.Piece.skip.Goals as goal

pub returns : goal.returns
returns c =
    rw (← c.self.view_is) (drop_of_range c.self.inside.bytes c.self.inside.used c.self.inside.end c.args.count
    (rw (← c.self.view_is) at c.requires))
