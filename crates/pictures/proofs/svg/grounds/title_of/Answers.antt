use Rattle.std.proofs.Common.{◌∙◌}
use Rattle.std.proofs.lemmas.Result.{IfOk-weaker}
use Rattle.pictures.proofs.RowTitles.{title_of-lines}
use Rattle.pictures.proofs.svg.grounds.title_of.Goals as goal

pub returns-in-Lines : goal.returns-in-Lines
returns-in-Lines c =
    IfOk-weaker c.raw_lines.result _ _ (λ title is. is ∙ title_of-lines c.args.lines.now c.args.row.now c.in-Lines.is)
    c.raw_lines.ensures
