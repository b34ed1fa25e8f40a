use Rattle.std.proofs.Common.{List, length, sym, subst, arith}
use Rattle.std.specs.List.Sorted.{IsNonDecreasingBy}
use Rattle.modules_c.specs.declared.heapmem.row.Row.{Row}
use Rattle.modules_c.specs.Code.HeapmemRows.{without_row}
use Rattle.modules_c.proofs.HeapmemEdits.{free_inside}
use Rattle.modules_c.proofs.HeapmemTables.{places_rise, lie_without, row_lies}
use Rattle.modules_c.proofs.HeapmemResizes.{free_without, moved_is, moved_table, length-resized}
use Rattle.modules_c.proofs.heapmem.block.relocate.Goals as goal

pub carry-requires-clause-source : goal.carry-requires-clause-source
carry-requires-clause-source c =
    grind (arith, row_lies c.args.rows.now (length c.args.bytes.now) c.args.number c.requires.table c.requires.there)

pub carry-requires-clause-target : goal.carry-requires-clause-target
carry-requires-clause-target c = grind (arith, free_inside)

pub returns-clause-heap : goal.returns-clause-heap
returns-clause-heap c = grind (arith, moved_is, length-resized, free_without)

pub returns-clause-table : goal.returns-clause-table
returns-clause-table c = grind (arith, moved_table, length-resized, free_without)

pub insert-requires-clause-order : goal.insert-requires-clause-order
insert-requires-clause-order c =
    let rows = c.args.rows.now in let bytes = c.args.bytes.now in
    subst (λ (left : List Row). IsNonDecreasingBy (λ (row : Row). row.offset) left) (sym c.remove.ensures.rows)
    (places_rise 0 (without_row c.args.number rows) (length bytes) (lie_without 0 rows (length bytes) c.args.number c.requires.table))
