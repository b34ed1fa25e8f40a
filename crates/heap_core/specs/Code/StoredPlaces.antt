-- What the two bytes stand for that the code stores for a name.
use Rattle.std.specs.Prelude.{ℕ, Option, Some, None, if◌then◌else◌, ◌==◌}

-- where the chunk of the name's block begins, if it has one
abbrev pub place_stored : ℕ → Option ℕ
place_stored at = if at == 65535 then None else Some at
