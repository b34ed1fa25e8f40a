-- Whether blocks have room in managed memory.
use Rattle.std.specs.Prelude.{◌≡◌, ℕ, ◌+◌, ◌<◌, ◌≤◌, Option, Some, None, List, All, Any}
use Rattle.pictures.specs.declared.memory.stay.Stay.{Stay}

-- a block reaches beyond n bytes
abbrev pub Exceeds : ℕ → Stay → Type 0
Exceeds size stay = size < stay.at + stay.taken

-- the first row in which a block reaches beyond n bytes, where one does
abbrev pub IsFirstExceeding : ℕ → List Stay → Option ℕ → Type 0
IsFirstExceeding size stays None = All (λ stay. stay.at + stay.taken ≤ size) stays
IsFirstExceeding size stays (Some row) =
    Any (λ stay. Exceeds size stay × (stay.first ≡ row)) stays × All (λ stay. Exceeds size stay → row ≤ stay.first) stays
