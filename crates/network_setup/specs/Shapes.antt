-- The links that a line adds. A pair of numbers is a link from one mote to another.
use Rattle.std.specs.Prelude.{ℕ, ◌+◌, ◌-◌, ◌%◌, ◌==◌, Bool, true, ◌&&◌, ◌||◌, List, [], ◌∷◌, ◌++◌, flat_map, length, slice_index_or, slice_set, Option, None, Some, nat_le, nat_lt, if◌then◌else◌}
use Rattle.std.specs.List.{range_with_len}
use Rattle.medium_core.specs.declared.link.Fate.{Fate}
use Rattle.medium_core.specs.declared.link.Link.{Link}
use Rattle.network_setup.specs.Setting.{is_fit, next_carriage}
use Rattle.network_setup.specs.declared.carriage.Carriage.{Carriage}
use Rattle.network_setup.specs.declared.shape.Shape.{Shape}

-- the numbers from this one on that are below the end
abbrev pub up_to : ℕ → ℕ → List ℕ
up_to first end = range_with_len first (end - first)

-- links both ways between two motes
abbrev pub both_ways : ℕ → ℕ → List (ℕ × ℕ)
both_ways a b = (a, b) ∷ (b, a) ∷ []

-- each mote and the next one
abbrev pub line_links : ℕ → ℕ → List (ℕ × ℕ)
line_links first last = flat_map (λ a. both_ways a (a + 1)) (up_to first last)

-- and the last one and the first one
abbrev pub ring_links : ℕ → ℕ → List (ℕ × ℕ)
ring_links first last = line_links first last ++ both_ways last first

-- a mote and each one after it
abbrev pub links_after : ℕ → ℕ → List (ℕ × ℕ)
links_after last a = flat_map (λ b. both_ways a b) (up_to (a + 1) (last + 1))

-- each two motes
abbrev pub mesh_links : ℕ → ℕ → List (ℕ × ℕ)
mesh_links first last = flat_map (links_after last) (up_to first last)

-- a mote of a grid with rows of this width and the next one, unless that begins a row
abbrev pub row_links : ℕ → ℕ → ℕ → ℕ → List (ℕ × ℕ)
row_links first last width a = if nat_le last a || (a + 1 - first) % width == 0 then [] else both_ways a (a + 1)

-- and the one below it
abbrev pub column_links : ℕ → ℕ → ℕ → List (ℕ × ℕ)
column_links last width a = if nat_lt last (a + width) then [] else both_ways a (a + width)

-- each mote and its neighbours
abbrev pub grid_links : ℕ → ℕ → ℕ → List (ℕ × ℕ)
grid_links first last width = flat_map (λ a. row_links first last width a ++ column_links last width a) (up_to first (last + 1))

-- the links of a line, in their order
abbrev pub links_of : Shape → List (ℕ × ℕ)
links_of (Shape.Link from to) = (from, to) ∷ []
links_of (Shape.Line span) = line_links span.first span.last
links_of (Shape.Ring span) = ring_links span.first span.last
links_of (Shape.Mesh span) = mesh_links span.first span.last
links_of (Shape.Grid span width) = grid_links span.first span.last width

-- the network has these motes, a ring has three or more, and a grid's rows aren't empty
abbrev pub is_shape : ℕ → Shape → Bool
is_shape motes (Shape.Link from to) = true
is_shape motes (Shape.Line span) = nat_le span.last motes
is_shape motes (Shape.Ring span) = nat_le span.last motes && nat_le 2 (span.last - span.first)
is_shape motes (Shape.Mesh span) = nat_le span.last motes
is_shape motes (Shape.Grid span width) = nat_le span.last motes && nat_lt 0 width

-- a new link, after the sender's other ones
abbrev pub with_new_link : ℕ → ℕ → Carriage → List (List Link) → List (List Link)
with_new_link from to carriage links =
    slice_set links (from - 1)
    (slice_index_or links (from - 1) [] ++ record { to = to - 1; delay = carriage.delay; loss = carriage.loss; last = Fate.Unused } ∷ [])

-- these links, one after the other, each further one with the next seed. None, where one of them can't be set up
abbrev pub linked : List (ℕ × ℕ) → Carriage → List (List Link) → Option (List (List Link))
linked [] carriage links = Some links
linked (link ∷ later) carriage links =
    if is_fit (length links) link.0 link.1 carriage then linked later (next_carriage carriage) (with_new_link link.0 link.1 carriage links) else None

-- the links of a network after a line. None, where the line is malformed
abbrev pub with_shape : Shape → Carriage → List (List Link) → Option (List (List Link))
with_shape shape carriage links = if is_shape (length links) shape then linked (links_of shape) carriage links else None
