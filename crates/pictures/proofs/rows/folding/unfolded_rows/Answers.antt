use Rattle.std.proofs.Common.{◌+◌, [], ◌∷◌, ◌++◌, All, refl, lit<}
use Rattle.std.proofs.lemmas.List.Elements.{All-append, All-cons, All-nil}
use Rattle.pictures.specs.declared.rows.row.Row.{Row}
use Rattle.pictures.specs.declared.rows.row.Show.{Show}
use Rattle.pictures.specs.Rows.{Cover, IsPlain}
use Rattle.pictures.proofs.Covers.{Cover-append}
use Rattle.pictures.proofs.rows.folding.unfolded_rows.Goals as goal

pub loop-at-preserved : goal.loop-at-preserved
loop-at-preserved c =
    let row : Row = record { first = c.loop-at.at; count = 1; show = Show.Lines } in
    let covered : Cover c.args.first (c.loop-at.rows.items ++ row ∷ []) (c.loop-at.at + 1) =
    Cover-append c.args.first c.loop-at.rows.items c.loop-at.at row c.loop-at.invariant.cover refl (lit< tt) in
    let plain : All IsPlain (c.loop-at.rows.items ++ row ∷ []) =
    All-append IsPlain c.loop-at.rows.items (row ∷ []) c.loop-at.invariant.plain (All-cons IsPlain row [] (refl, refl) (All-nil IsPlain)) in
    record {
      cover = rw c.in_ok-push.ensures.items covered;
      plain = rw c.in_ok-push.ensures.items plain;
    }
