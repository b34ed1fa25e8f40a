use Rattle.std.proofs.Common.{◌-◌, List, length, slice_set, ap, ◌∙◌, arith}
use Rattle.modules_c.specs.declared.heapmem.row.Row.{Row}
use Rattle.modules_c.proofs.HeapmemEdits.{inserted}
use Rattle.modules_c.proofs.heapmem.table.insert.Goals as goal

pub returns : goal.returns
returns c =
    let rows = c.args.rows.now in let i = c.first_after-number.result in
    ap (λ (l : List Row). slice_set l i c.args.row) c.copy_within.ensures.after
    ∙ inserted c.args.row rows i (length rows - 1)
    (omega arith) c.first_after-number.ensures.inside c.first_after-number.ensures.below
    c.first_after-number.ensures.above
