-- How far blocks reach, and one more.
use Rattle.std.proofs.Common.{◌≡◌, ◌∙◌, max, List, [], ◌∷◌, ◌++◌, ap, arith}
use Rattle.pictures.specs.declared.memory.stay.Stay.{Stay}
use Rattle.pictures.specs.Svg.Boxes.{block_end}
use Rattle.pictures.specs.Svg.Columns.{furthest}

pub furthest_append : (stays : List Stay) (stay : Stay) → furthest (stays ++ stay ∷ []) ≡ max (furthest stays) (block_end stay)
furthest_append [] stay = omega arith
furthest_append (first ∷ stays) stay = ap (λ n. max (block_end first) n) (furthest_append stays stay) ∙ omega arith
