use Rattle.std.proofs.Common.{ℕ, ◌+◌, List, ◌++◌, Ok, Err, arith, refl}
use Rattle.std.proofs.lemmas.Result.{err_from_is_err_and}
use Rattle.medium_core.specs.Code.Airs.{link_lists}
use Rattle.network_setup.proofs.Linking.{both_added, first_fails, none_left, one_fails, one_more}
use Rattle.network_setup.specs.Shapes.{column_links, grid_links, row_links}
use Rattle.network_setup.proofs.links.add_grid.Goals as goal

pub loop-a-init : goal.loop-a-init
loop-a-init c = record { goes = λ later. refl }

-- the links of one mote
around : ℕ → ℕ → ℕ → ℕ → List (ℕ × ℕ)
around first last width a = row_links first last width a ++ column_links last width a

pub returns-in_err-add_in_row : goal.returns-in_err-add_in_row
unfolding around
returns-in_err-add_in_row c =
    let p = err_from_is_err_and c.from_residual.result c.from_residual.ensures.1 in
    let first = row_links c.args.span.first c.args.span.last c.args.width c.loop-a.a in
    let second = column_links c.args.span.last c.args.width c.loop-a.a in
    rw (p.1, p.2)
    (one_fails (around c.args.span.first c.args.span.last c.args.width) (grid_links c.args.span.first c.args.span.last c.args.width) c.loop-a.a
    (c.args.span.last + 1) c.args.carriage.now c.loop-a.carriage c.add_in_row.new.carriage (link_lists c.args.links.now)
    (link_lists c.loop-a.links) (link_lists c.add_in_row.new.links) _ (omega arith) c.loop-a.invariant
    (first_fails first second c.loop-a.carriage c.add_in_row.new.carriage c.add_in_row.new.carriage (link_lists c.loop-a.links)
    (link_lists c.add_in_row.new.links) (link_lists c.add_in_row.new.links) _ c.in_err-add_in_row.ensures))

pub returns-in_err-add_in_column : goal.returns-in_err-add_in_column
unfolding around
returns-in_err-add_in_column c =
    let p = err_from_is_err_and c.from_residual-in_err-add_in_column.result c.from_residual-in_err-add_in_column.ensures.1 in
    let first = row_links c.args.span.first c.args.span.last c.args.width c.loop-a.a in
    let second = column_links c.args.span.last c.args.width c.loop-a.a in
    rw (p.1, p.2)
    (one_fails (around c.args.span.first c.args.span.last c.args.width) (grid_links c.args.span.first c.args.span.last c.args.width) c.loop-a.a
    (c.args.span.last + 1) c.args.carriage.now c.loop-a.carriage c.add_in_column.new.carriage (link_lists c.args.links.now)
    (link_lists c.loop-a.links) (link_lists c.add_in_column.new.links) _ (omega arith) c.loop-a.invariant
    (both_added first second c.loop-a.carriage c.add_in_row.new.carriage c.add_in_column.new.carriage (link_lists c.loop-a.links)
    (link_lists c.add_in_row.new.links) (link_lists c.add_in_column.new.links) (Err _) c.in_ok-add_in_row.ensures c.in_err-add_in_column.ensures))

pub loop-a-preserved : goal.loop-a-preserved
unfolding around
loop-a-preserved c =
    let first = row_links c.args.span.first c.args.span.last c.args.width c.loop-a.a in
    let second = column_links c.args.span.last c.args.width c.loop-a.a in
    one_more (around c.args.span.first c.args.span.last c.args.width) (grid_links c.args.span.first c.args.span.last c.args.width) c.loop-a.a
    (c.args.span.last + 1) c.args.carriage.now c.loop-a.carriage c.add_in_column.new.carriage (link_lists c.args.links.now)
    (link_lists c.loop-a.links) (link_lists c.add_in_column.new.links) (omega arith) c.loop-a.invariant
    (both_added first second c.loop-a.carriage c.add_in_row.new.carriage c.add_in_column.new.carriage (link_lists c.loop-a.links)
    (link_lists c.add_in_row.new.links) (link_lists c.add_in_column.new.links) (Ok tt) c.in_ok-add_in_row.ensures c.in_ok-add_in_column.ensures)

pub returns : goal.returns
unfolding around
returns c =
    none_left (around c.args.span.first c.args.span.last c.args.width) (grid_links c.args.span.first c.args.span.last c.args.width) c.loop-a.a
    (c.args.span.last + 1) c.args.carriage.now c.loop-a.carriage c.loop-a.carriage (link_lists c.args.links.now) (link_lists c.loop-a.links)
    (link_lists c.loop-a.links) (omega arith) c.loop-a.invariant
