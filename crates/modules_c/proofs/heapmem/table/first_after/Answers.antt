use Rattle.std.proofs.Common.{rules, of_calls, leb, arith}
use Rattle.std.proofs.lemmas.Fn.{always_returns_same}
use Rattle.std.proofs.lemmas.List.Sorted.{IsPartitionedBy-leb}
use Rattle.modules_c.specs.declared.heapmem.row.Row.{Row}
use Rattle.modules_c.proofs.heapmem.table.first_after.Goals as goal

pub returns-clause-below : goal.returns-clause-below
returns-clause-below c j less =
    let offset = c.args.offset in
    grind (
      arith,
      c.partition_point.ensures.partitioned (λ (row : Row). leb row.offset offset)
          (always_returns_same _ _ _ (λ a r f k. search (rules, of_calls)))
          (IsPartitionedBy-leb (λ (row : Row). row.offset) c.args.rows.now offset c.requires),
    )

pub returns-clause-above : goal.returns-clause-above
returns-clause-above c less =
    let offset = c.args.offset in grind (
      arith,
      c.partition_point.ensures.partitioned (λ (row : Row). leb row.offset offset)
          (always_returns_same _ _ _ (λ a r f k. search (rules, of_calls)))
          (IsPartitionedBy-leb (λ (row : Row). row.offset) c.args.rows.now offset c.requires),
    )
