-- What the four bytes stand for that the code stores for a name.
use Rattle.std.specs.Prelude.{◌+◌, Option, Some, None, if◌then◌else◌, ◌==◌}
use Rattle.mmem_core.specs.declared.place.Place.{Place}
use Rattle.mmem_core.specs.declared.place_table.StoredPlace.{StoredPlace}

-- the position of the name's block, if it has one
abbrev pub place_stored : StoredPlace → Option Place
place_stored stored = if stored.at == 65535 then None else Some (record { at = stored.at; len = stored.last + 1 })
