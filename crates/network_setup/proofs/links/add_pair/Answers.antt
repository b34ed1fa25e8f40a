use Rattle.std.proofs.Common.{[], ◌∷◌}
use Rattle.std.proofs.lemmas.Result.{err_from_is_err_and}
use Rattle.medium_core.specs.Code.Airs.{link_lists}
use Rattle.network_setup.proofs.Linking.{both_added, first_fails}
use Rattle.network_setup.proofs.links.add_pair.Goals as goal

pub returns-in_err-add_next : goal.returns-in_err-add_next
returns-in_err-add_next c =
    let p = err_from_is_err_and c.from_residual.result c.from_residual.ensures.1 in
    rw (p.1, p.2)
    (first_fails ((c.args.a, c.args.b) ∷ []) ((c.args.b, c.args.a) ∷ []) c.args.carriage.now c.add_next.new.carriage c.add_next.new.carriage
    (link_lists c.args.links.now) (link_lists c.add_next.new.links) (link_lists c.add_next.new.links) _ c.in_err-add_next.ensures)

pub returns : goal.returns
returns c =
    both_added ((c.args.a, c.args.b) ∷ []) ((c.args.b, c.args.a) ∷ []) c.args.carriage.now c.add_next.new.carriage c.add_next-2.new.carriage
    (link_lists c.args.links.now) (link_lists c.add_next.new.links) (link_lists c.add_next-2.new.links) c.add_next-2.result
    c.in_ok-add_next.ensures c.add_next-2.ensures
