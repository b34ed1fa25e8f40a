-- What is put into a buffer, and how many bytes it has room for.
use Rattle.std.specs.Prelude.{◌≡◌, ◌+◌, ◌≤◌, ◌++◌, ℕ, List, length, take}
use Rattle.arrayvec.specs.ArrayVec.{ArrayVec}

-- so many more bytes fit into a buffer of this capacity
abbrev pub HasRoomOf : ℕ → ArrayVec ℕ → ℕ → Type 0
HasRoomOf capacity buffer count = length buffer.items + count ≤ capacity

-- and into the 4,096 of the output buffer
abbrev pub HasRoom : ArrayVec ℕ → ℕ → Type 0
HasRoom = HasRoomOf 4096

-- these bytes, at most `most` of them, were put at position `at`, and end at `end`; the bytes before `at` are as they were
pub record Puts (old new : List ℕ) (at end : ℕ) (most : ℕ) (bytes : List ℕ) : Type 0 where
  pub text : take end new ≡ take at old ++ bytes
  pub few : end ≤ at + most
