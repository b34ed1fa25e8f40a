use Rattle.std.proofs.Common.{◌+◌, ◌++◌}
use Rattle.std.specs.Prelude.{flat_map}
use Rattle.medium_core.specs.Code.Airs.{link_lists}
use Rattle.network_setup.specs.Shapes.{column_links, grid_links, row_links, up_to}
use Rattle.network_setup.proofs.Linking.{IsLeft}
use Rattle.network_setup.proofs.links.add_grid.Given as goal

abbrev pub invariant-loop-a : goal.invariant-loop-a
invariant-loop-a l =
    IsLeft (grid_links l.span.first l.span.last l.width)
    (flat_map (λ a. row_links l.span.first l.span.last l.width a ++ column_links l.span.last l.width a) (up_to l.a (l.span.last + 1))) l.fn.carriage
    l.carriage (link_lists l.fn.links) (link_lists l.links)
