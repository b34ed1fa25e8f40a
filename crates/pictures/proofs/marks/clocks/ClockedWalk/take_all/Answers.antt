use Rattle.std.proofs.Common.{◌∙◌, length, take, ap}
use Rattle.pictures.specs.Clocks.{clock_after}
use Rattle.pictures.specs.Rows.{bytes_of}
use Rattle.pictures.proofs.RowClocks.{clocks_at}
use Rattle.pictures.proofs.marks.clocks.ClockedWalk.take_all.Goals as goal

pub returns-clause-clocks : goal.returns-clause-clocks
returns-clause-clocks c =
    let lines = bytes_of c.args.lines.now in
    clocks_at lines c.args.rows.now (length c.args.lines.now) _ _ _
    (c.take_lines.ensures.clock c.requires.clock ∙ ap (λ line. clock_after (take line lines)) c.first_of.ensures)
    (ap (λ clocks. clocks.items) c.take_lines.ensures.clocks ∙ c.requires.clocks) c.in_ok-take_rows.ensures.clocks
