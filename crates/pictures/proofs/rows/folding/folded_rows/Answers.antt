use Rattle.std.proofs.Common.{◌+◌, [], ◌∷◌, ◌++◌, arith}
use Rattle.std.proofs.lemmas.Grind.{common_steps}
use Rattle.std.proofs.lemmas.List.Elements.{All-push}
use Rattle.pictures.specs.Rows.{Cover, IsTrueRow}
use Rattle.pictures.proofs.Covers.{Cover-append}
use Rattle.pictures.proofs.rows.folding.folded_rows.Goals as goal

pub loop-at-preserved : goal.loop-at-preserved
loop-at-preserved c =
    let row = c.next_row-row.result in
    let covered : Cover c.args.first (c.loop-at.rows.items ++ row ∷ []) (c.loop-at.at + row.count) =
    Cover-append c.args.first c.loop-at.rows.items c.loop-at.at row c.loop-at.invariant.cover c.next_row-row.ensures.first
    c.next_row-row.ensures.some in
    record {
      cover = rw c.in_ok-push-2.ensures.items covered;
      within = grind (arith, common_steps);
      again = rw c.in_ok-push-2.ensures.items
          (All-push (IsTrueRow _) c.loop-at.rows.items row c.loop-at.invariant.again c.next_row-row.ensures.again);
    }
