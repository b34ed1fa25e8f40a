-- A ring of bytes as the queue that it stands for.
use Rattle.std.specs.Prelude.{ℕ, ◌-◌, ◌≤◌, ◌<◌, List, ◌++◌, length, take, drop, slice_range, nat_le, if◌then◌else◌}

-- Bytes go to position put, and are taken from position get; both are in the ring. It has at most as many positions as a
-- byte has values.
pub record IsRing (bytes : List ℕ) (put get : ℕ) : Type 0 where
  pub size : length bytes ≤ 256
  pub put_inside : put < length bytes
  pub get_inside : get < length bytes

-- the bytes that wait, the oldest first: from get up to put, around the ring's end where put is below get
abbrev pub queued : List ℕ → ℕ → ℕ → List ℕ
queued bytes put get = if nat_le get put then slice_range bytes get put else drop get bytes ++ take put bytes

-- one position stays empty
abbrev pub room : List ℕ → ℕ
room bytes = length bytes - 1
