use Rattle.std.proofs.Common.{◌+◌, arith}
use Rattle.std.proofs.lemmas.Result.{err_from_is_err_and}
use Rattle.medium_core.specs.Code.Airs.{link_lists}
use Rattle.network_setup.proofs.Linking.{none_left, one_fails, one_more}
use Rattle.network_setup.specs.Shapes.{both_ways, links_after}
use Rattle.network_setup.proofs.links.add_after.Goals as goal

pub loop-b-preserved : goal.loop-b-preserved
loop-b-preserved c =
    one_more (λ b. both_ways c.args.a b) (links_after c.args.last c.args.a) c.loop-b.b (c.args.last + 1) c.args.carriage.now c.loop-b.carriage c.add_pair.new.carriage (link_lists c.args.links.now)
    (link_lists c.loop-b.links) (link_lists c.add_pair.new.links) (omega arith) c.loop-b.invariant c.in_ok-add_pair.ensures

pub returns-in_err-add_pair : goal.returns-in_err-add_pair
returns-in_err-add_pair c =
    let p = err_from_is_err_and c.from_residual.result c.from_residual.ensures.1 in
    rw (p.1, p.2)
    (one_fails (λ b. both_ways c.args.a b) (links_after c.args.last c.args.a) c.loop-b.b (c.args.last + 1) c.args.carriage.now c.loop-b.carriage c.add_pair.new.carriage (link_lists c.args.links.now)
    (link_lists c.loop-b.links) (link_lists c.add_pair.new.links) _ (omega arith) c.loop-b.invariant c.in_err-add_pair.ensures)

pub returns : goal.returns
returns c =
    none_left (λ b. both_ways c.args.a b) (links_after c.args.last c.args.a) c.loop-b.b (c.args.last + 1) c.args.carriage.now c.loop-b.carriage c.loop-b.carriage (link_lists c.args.links.now)
    (link_lists c.loop-b.links) (link_lists c.loop-b.links) (omega arith) c.loop-b.invariant
