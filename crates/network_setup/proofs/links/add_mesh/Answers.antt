use Rattle.std.proofs.Common.{arith}
use Rattle.std.proofs.lemmas.Result.{err_from_is_err_and}
use Rattle.medium_core.specs.Code.Airs.{link_lists}
use Rattle.network_setup.proofs.Linking.{none_left, one_fails, one_more}
use Rattle.network_setup.specs.Shapes.{links_after, mesh_links}
use Rattle.network_setup.proofs.links.add_mesh.Goals as goal

pub loop-a-preserved : goal.loop-a-preserved
loop-a-preserved c =
    one_more (links_after c.args.span.last) (mesh_links c.args.span.first c.args.span.last) c.loop-a.a (c.args.span.last)
    c.args.carriage.now c.loop-a.carriage c.add_after.new.carriage (link_lists c.args.links.now)
    (link_lists c.loop-a.links) (link_lists c.add_after.new.links) (omega arith) c.loop-a.invariant c.in_ok-add_after.ensures

pub returns-in_err-add_after : goal.returns-in_err-add_after
returns-in_err-add_after c =
    let p = err_from_is_err_and c.from_residual.result c.from_residual.ensures.1 in
    rw (p.1, p.2)
    (one_fails (links_after c.args.span.last) (mesh_links c.args.span.first c.args.span.last) c.loop-a.a (c.args.span.last)
    c.args.carriage.now c.loop-a.carriage c.add_after.new.carriage (link_lists c.args.links.now)
    (link_lists c.loop-a.links) (link_lists c.add_after.new.links) _ (omega arith) c.loop-a.invariant c.in_err-add_after.ensures)

pub returns : goal.returns
returns c =
    none_left (links_after c.args.span.last) (mesh_links c.args.span.first c.args.span.last) c.loop-a.a (c.args.span.last)
    c.args.carriage.now c.loop-a.carriage c.loop-a.carriage (link_lists c.args.links.now)
    (link_lists c.loop-a.links) (link_lists c.loop-a.links) (omega arith) c.loop-a.invariant
