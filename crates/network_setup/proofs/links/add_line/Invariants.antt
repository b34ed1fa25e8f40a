use Rattle.std.proofs.Common.{◌+◌}
use Rattle.std.specs.Prelude.{flat_map}
use Rattle.medium_core.specs.Code.Airs.{link_lists}
use Rattle.network_setup.specs.Shapes.{both_ways, line_links, up_to}
use Rattle.network_setup.proofs.Linking.{IsLeft}
use Rattle.network_setup.proofs.links.add_line.Given as goal

abbrev pub invariant-loop-a : goal.invariant-loop-a
invariant-loop-a l =
    IsLeft (line_links l.fn.span.first l.fn.span.last) (flat_map (λ a. both_ways a (a + 1)) (up_to l.a l.a-end)) l.fn.carriage l.carriage
    (link_lists l.fn.links) (link_lists l.links)
