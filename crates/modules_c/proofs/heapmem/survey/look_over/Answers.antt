use Rattle.std.proofs.Common.{◌≡◌, ◌+◌, drop, slice_index_or, sym, subst, arith, Option}
use Rattle.std.proofs.lemmas.List.{drop_more}
use Rattle.modules_c.specs.declared.heapmem.row.Row.{Row}
use Rattle.modules_c.specs.declared.heapmem.row.Hole.{Hole}
use Rattle.modules_c.specs.Heapmem.Heaps.{room_of}
use Rattle.modules_c.proofs.HeapmemWalks.{IsMidway, midway_gap}
use Rattle.modules_c.proofs.heapmem.survey.look_over.Goals as goal
use Rattle.modules_c.proofs.heapmem.survey.look_over.Goals.{then-end-row, else-end-row}

pub loop-row-init : goal.loop-row-init
loop-row-init c = grind arith

pub returns-in_default-clause-none : goal.returns-in_default-clause-none
returns-in_default-clause-none c table = grind (arith, drop_more)

pub loop-row-preserved : goal.loop-row-preserved
loop-row-preserved c =
    let rows = c.args.rows.now in let i = c.loop-row.row-index in let capacity = c.args.capacity in let need = c.args.need in
    let d : Row = grind arith in
    let row = slice_index_or rows i d in let left = drop (i + 1) rows in
    let found = c.in-Some.ensures.some in let best = c.loop-row.best in let from = c.loop-row.end in
    let end_is : c.if-end-row.end ≡ row.offset + room_of row =
    grind arith in
    let more = drop_more rows i d (omega arith) in (
      grind arith,
      λ table.
          let midway = subst (IsMidway rows capacity need best from) more (c.loop-row.invariant.1 table) in
          elim c.if-end-row.branch [
            | then-end-row w ↦
                subst (λ end. IsMidway rows capacity need c.if-end-row.best end left) (sym end_is)
                (subst (λ (best : Option Hole). IsMidway rows capacity need best (row.offset + room_of row) left) (sym w.best-is)
                (midway_gap rows capacity need best from row left midway w.if-end-row.true w.better-best.result w.better-best.ensures.better
                w.better-best.ensures.chosen))
            | else-end-row w ↦
                grind arith
          ],
    )
