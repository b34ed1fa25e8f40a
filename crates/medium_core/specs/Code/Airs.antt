-- The links as they are stored.
use Rattle.std.specs.Prelude.{List, map}
use Rattle.std.specs.Global.{Vec}
use Rattle.medium_core.specs.declared.link.Link.{Link}

abbrev pub link_lists : List (Vec Link) → List (List Link)
link_lists lists = map (λ (v : Vec Link). v.items) lists
