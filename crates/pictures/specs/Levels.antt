-- The values of a dump at a line.
use Rattle.std.specs.Prelude.{ℕ, ◌-◌, nat_le, if◌then◌else◌}
use Rattle.pictures.specs.declared.dump.values.Value.{Value}

-- the number of bytes of a size that no block takes; where more is taken than there is, that isn't known
abbrev pub free : ℕ → ℕ → Value
free size taken = if nat_le taken size then Value.Number (size - taken) else Value.Unknown
