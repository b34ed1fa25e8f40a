-- Which list has a block.
use Rattle.std.specs.Prelude.{ℕ, List, Option, Some, None, if◌then◌else◌}
use Rattle.memb_core.specs.declared.list_name.ListName.{ListName}
use Rattle.memb_core.specs.BlockLists.{has_number}

-- the one of two lists that has b
abbrev pub holder_of : ℕ → List ℕ → List ℕ → Option ListName
holder_of b first second =
    if has_number b first then Some ListName.First else if has_number b second then Some ListName.Second else None
