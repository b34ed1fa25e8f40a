-- The positions of the blocks in the span, where the last one ends, and the number of bytes that a change of the positions moves.
use Rattle.std.specs.Prelude.{ℕ, ◌+◌, max, List, [], ◌∷◌, Option, Some, None, get_or, if◌then◌else◌, ◌==◌}
use Rattle.mote_types.specs.Rounding.{up4}
use Rattle.mmem_core.specs.declared.place.Place.{Place}

-- the position of the name with this number, if it is live
abbrev pub place_in : List (Option Place) → ℕ → Option Place
place_in places i = get_or places i None

-- where a block ends that takes its length, rounded up
abbrev pub end_of : Option Place → ℕ
end_of None = 0
end_of (Some place) = place.at + up4 place.len

-- where the last block ends; 0 if none is live. What is after it is free
abbrev pub last_end : List (Option Place) → ℕ
last_end [] = 0
last_end (place ∷ places) = max (end_of place) (last_end places)

-- what a block takes whose position changed: its length, rounded up
abbrev pub room_moved : Option Place → Option Place → ℕ
room_moved (Some old) (Some new) = if old.at == new.at then 0 else up4 old.len
room_moved (Some old) None = 0
room_moved None _ = 0

-- the rounded sizes of the blocks whose position changed
abbrev pub bytes_moved : List (Option Place) → List (Option Place) → ℕ
bytes_moved [] _ = 0
bytes_moved (old ∷ olds) [] = 0
bytes_moved (old ∷ olds) (new ∷ news) = room_moved old new + bytes_moved olds news
