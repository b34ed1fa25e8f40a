-- The lists of a pool as their users see them: block numbers in order, the head first.
use Rattle.std.specs.Prelude.{◌-◌, Bool, not, List, [], ◌∷◌, ◌++◌, length, take, drop, filter, slice_get, Option, None, if◌then◌else◌, ◌==◌}
use Rattle.std.specs.List.{list_any}
use Rattle.mote_types.specs.Kinds.{BlockNumber}

abbrev pub has_number : BlockNumber → List BlockNumber → Bool
has_number b list = list_any (λ other. other == b) list

abbrev pub without : BlockNumber → List BlockNumber → List BlockNumber
without b list = filter (λ other. not (other == b)) list

abbrev pub head_of : List BlockNumber → Option BlockNumber
head_of list = slice_get list 0

abbrev pub tail_of : List BlockNumber → Option BlockNumber
tail_of list = slice_get list (length list - 1)

abbrev pub next_of : BlockNumber → List BlockNumber → Option BlockNumber
next_of b [] = None
next_of b (other ∷ later) = if other == b then head_of later else next_of b later

abbrev pub put_behind : BlockNumber → BlockNumber → List BlockNumber → List BlockNumber
put_behind prev b [] = []
put_behind prev b (other ∷ later) = if other == prev then other ∷ (b ∷ later) else other ∷ put_behind prev b later

-- `added`, `pushed` and `inserted` first remove b, if it is in the list
abbrev pub added : BlockNumber → List BlockNumber → List BlockNumber
added b list = without b list ++ b ∷ []

abbrev pub pushed : BlockNumber → List BlockNumber → List BlockNumber
pushed b list = b ∷ without b list

abbrev pub inserted : BlockNumber → BlockNumber → List BlockNumber → List BlockNumber
inserted prev b list = put_behind prev b (without b list)

abbrev pub popped : List BlockNumber → List BlockNumber
popped list = drop 1 list

abbrev pub chopped : List BlockNumber → List BlockNumber
chopped list = take (length list - 1) list
