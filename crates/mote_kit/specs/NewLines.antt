-- Lines of a file, of which some change.
use Rattle.std.specs.Prelude.{ℕ, List, ◌++◌, codes, flat_map, replicate}

-- a line with its end, a number of times
abbrev pub repeated : ℕ → List ℕ → List ℕ
repeated count line = flat_map (λ l. l ++ codes "\n") (replicate count line)
