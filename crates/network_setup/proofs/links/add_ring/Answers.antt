use Rattle.std.proofs.lemmas.Result.{err_from_is_err_and}
use Rattle.medium_core.specs.Code.Airs.{link_lists}
use Rattle.network_setup.proofs.Linking.{both_added, first_fails}
use Rattle.network_setup.specs.Shapes.{both_ways, line_links}
use Rattle.network_setup.proofs.links.add_ring.Goals as goal

pub returns-in_err-add_line : goal.returns-in_err-add_line
returns-in_err-add_line c =
    let p = err_from_is_err_and c.from_residual.result c.from_residual.ensures.1 in
    rw (p.1, p.2)
    (first_fails (line_links c.args.span.first c.args.span.last) (both_ways c.args.span.last c.args.span.first) c.args.carriage.now
    c.add_line.new.carriage c.add_line.new.carriage (link_lists c.args.links.now) (link_lists c.add_line.new.links)
    (link_lists c.add_line.new.links) _ c.in_err-add_line.ensures)

pub returns : goal.returns
returns c =
    both_added (line_links c.args.span.first c.args.span.last) (both_ways c.args.span.last c.args.span.first) c.args.carriage.now
    c.add_line.new.carriage c.add_pair.new.carriage (link_lists c.args.links.now) (link_lists c.add_line.new.links)
    (link_lists c.add_pair.new.links) c.add_pair.result c.in_ok-add_line.ensures c.add_pair.ensures
