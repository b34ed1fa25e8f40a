-- The latest items of a list that grows at its end.
use Rattle.std.specs.Prelude.{ℕ, ◌-◌, List, length, drop}

-- the last n, or all where there are fewer
abbrev pub latest : {A : Type 0} → ℕ → List A → List A
latest n xs = drop (length xs - n) xs
