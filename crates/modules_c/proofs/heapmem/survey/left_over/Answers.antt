use Rattle.std.proofs.Common.{◌+◌, drop, slice_index_or, subst, arith}
use Rattle.std.proofs.lemmas.List.{drop_more}
use Rattle.modules_c.specs.declared.heapmem.row.Row.{Row}
use Rattle.modules_c.proofs.HeapmemTables.{lie_le}
use Rattle.modules_c.proofs.HeapmemSums.{IsCounted, counted_first, counted_more}
use Rattle.modules_c.proofs.heapmem.survey.left_over.Goals as goal

pub loop-row-init : goal.loop-row-init
loop-row-init c = counted_first c.args.rows.now c.args.capacity c.requires

pub loop-row-preserved : goal.loop-row-preserved
loop-row-preserved c =
    let rows = c.args.rows.now in let i = c.loop-row.row-index in
    let d : Row = grind arith in
    rw c.room_of.ensures
    (counted_more rows c.args.capacity c.loop-row.free c.loop-row.end (slice_index_or rows i d) (drop (i + 1) rows)
    (subst (IsCounted rows c.args.capacity c.loop-row.free c.loop-row.end)
    (drop_more rows i d (omega arith)) c.loop-row.invariant))

pub overflow_add-end : goal.overflow_add-end
overflow_add-end c = grind (arith, drop_more, lie_le)
