-- The sizes that the regions of a node's memory may have.
use Rattle.std.specs.Prelude.{ℕ, ◌+◌, ◌*◌, ◌%◌, Bool, true, ◌&&◌, ◌||◌, ◌==◌, nat_le}
use Rattle.std.specs.Option.{option_map_or}
use Rattle.mote_types.specs.Limits.{region_limit}
use Rattle.node_memory.specs.declared.sizes.Sizes.{Sizes}

abbrev pub is_region_size : ℕ → ℕ → Bool
is_region_size least size = nat_le least size && nat_le size region_limit && size % 4 == 0

-- whether process 3 and each of n applications may have this quota: managed memory has room for all of them
abbrev pub is_quota : ℕ → ℕ → ℕ → Bool
is_quota mmem applications quota = is_region_size 4 quota && nat_le (quota * (applications + 1)) mmem

abbrev pub is_header : ℕ → Bool
is_header header = header == 16 || header == 8

abbrev pub are_sizes : Sizes → ℕ → Bool
are_sizes sizes applications =
    is_region_size 4 sizes.mmem && is_region_size 20 sizes.heap && is_header sizes.header
    && option_map_or (is_quota sizes.mmem applications) sizes.quota true
