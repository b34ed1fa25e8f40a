-- The lines of a file that set a network up.
use Rattle.std.specs.Prelude.{◌≡◌, ◌⊎◌, ℕ, List, codes}

-- a line with this first word sets a network up
abbrev pub SetsUp : List ℕ → Type 0
SetsUp word = (word ≡ codes "mote") ⊎ (word ≡ codes "link") ⊎ (word ≡ codes "line") ⊎ (word ≡ codes "mesh") ⊎ (word ≡ codes "ring")
    ⊎ (word ≡ codes "grid") ⊎ (word ≡ codes "room") ⊎ (word ≡ codes "rounds")
