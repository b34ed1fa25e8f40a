use Rattle.std.proofs.Common.{◌+◌}
use Rattle.std.specs.Prelude.{flat_map}
use Rattle.medium_core.specs.Code.Airs.{link_lists}
use Rattle.network_setup.specs.Shapes.{both_ways, links_after, up_to}
use Rattle.network_setup.proofs.Linking.{IsLeft}
use Rattle.network_setup.proofs.links.add_after.Given as goal

abbrev pub invariant-loop-b : goal.invariant-loop-b
invariant-loop-b l =
    IsLeft (links_after l.last l.a) (flat_map (λ b. both_ways l.a b) (up_to l.b (l.last + 1))) l.fn.carriage l.carriage
    (link_lists l.fn.links) (link_lists l.links)
