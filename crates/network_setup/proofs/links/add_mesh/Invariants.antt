use Rattle.std.specs.Prelude.{flat_map}
use Rattle.medium_core.specs.Code.Airs.{link_lists}
use Rattle.network_setup.specs.Shapes.{links_after, mesh_links, up_to}
use Rattle.network_setup.proofs.Linking.{IsLeft}
use Rattle.network_setup.proofs.links.add_mesh.Given as goal

abbrev pub invariant-loop-a : goal.invariant-loop-a
invariant-loop-a l =
    IsLeft (mesh_links l.span.first l.span.last) (flat_map (links_after l.span.last) (up_to l.a l.a-end)) l.fn.carriage l.carriage
    (link_lists l.fn.links) (link_lists l.links)
