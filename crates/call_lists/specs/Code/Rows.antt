-- The calls of a row, part by part.
use Rattle.std.specs.Prelude.{◌≡◌, ℕ, List, ◌++◌}
use Rattle.call_lists.specs.RowTexts.{AreMade}
use Rattle.call_lists.specs.declared.rows.row.Step.{Step}

-- the calls that a part makes were put after the others
abbrev pub ArePut : List ℕ → List Step → List Step → Type 0
ArePut part old new = (made : List Step) × AreMade part made × (new ≡ old ++ made)
