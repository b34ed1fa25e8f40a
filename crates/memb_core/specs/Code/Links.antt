-- How the links, which are in the blocks' bytes, make the two lists of a pool.
use Rattle.std.specs.Prelude.{◌≡◌, ◌≢◌, ℕ, zero, suc, ◌+◌, ◌-◌, ◌≤◌, Bool, true, false, List, [], ◌∷◌, length, slice_range, slice_index_or, Option, Some, None, if◌then◌else◌, ◌==◌}
use Rattle.std.specs.Int.{from_le_bytes}
use mir.Syntax.{w32}
use Rattle.memb_core.specs.Code.PoolTable.{PoolTable, ListHeads}
use Rattle.memb_core.specs.declared.list_name.ListName.{ListName}
use Rattle.memb_core.specs.BlockLists.{has_number}
use Rattle.memb_core.specs.Code.PoolBytes.{place_of, region_of, pool_of, IsWithin}

-- the stored head of a list
abbrev pub start_of : ListName → ListHeads → Option ℕ
start_of ListName.First lists = lists.first
start_of ListName.Second lists = lists.second

-- the block that a link names: 0 for none, otherwise its number and 1
abbrev pub named_by : ℕ → Option ℕ
named_by word = if word == 0 then None else Some (word - 1)

-- the block that the link of block b names
unfoldable pub link_of : PoolTable → List ℕ → ℕ → Option ℕ
link_of pool bytes b = named_by (from_le_bytes w32 (slice_range (region_of pool bytes) (place_of pool b) (place_of pool b + 4)))

-- the numbers along the links, at most n of them
abbrev pub along : ℕ → (ℕ → Option ℕ) → Option ℕ → List ℕ
along zero link start = []
along (suc n) link None = []
along (suc n) link (Some b) = b ∷ along n link (link b)

-- all numbers along the links
unfoldable pub all_along : (ℕ → Option ℕ) → Option ℕ → List ℕ
all_along link start = along 16 link start

-- the numbers of a list. Of the arena's bytes it reads only the pool's span
abbrev pub list_of : ListName → ListHeads → PoolTable → List ℕ → List ℕ
list_of name lists pool bytes = all_along (link_of pool bytes) (start_of name lists)

-- the links from this one on name these blocks, and end there
abbrev pub Names : (ℕ → Option ℕ) → Option ℕ → List ℕ → Type 0
Names link start [] = start ≡ None
Names link start (b ∷ later) = (start ≡ Some b) × Names link (link b) later

-- no number occurs twice
abbrev pub AreDistinct : List ℕ → Type 0
AreDistinct [] = Unit {0}
AreDistinct (b ∷ later) = (has_number b later ≡ false) × AreDistinct later

abbrev pub is_used : ℕ → PoolTable → Bool
is_used b pool = slice_index_or pool.used b false

-- the links from the head of a list on end, pass no block twice, and pass only used blocks
pub record IsLinked (name : ListName) (lists : ListHeads) (pool : PoolTable) (bytes : List ℕ) : Type 0 where
  pub ends : Names (link_of pool bytes) (start_of name lists) (list_of name lists pool bytes)
  pub distinct : AreDistinct (list_of name lists pool bytes)
  pub used : (b : ℕ) → has_number b (list_of name lists pool bytes) ≡ true → is_used b pool ≡ true

-- the bytes of the pool's span are as the calls on the pool and on these lists left them: they link two lists, which have no
-- block in common
pub record AreLinked (lists : ListHeads) (pool : PoolTable) (bytes : List ℕ) : Type 0 where
  pub within : IsWithin pool bytes
  -- so 16 links are enough to reach the end of a list
  pub few : length pool.used ≤ 16
  pub each : (name : ListName) → IsLinked name lists pool bytes
  pub apart : (b : ℕ) (one other : ListName) → one ≢ other → has_number b (list_of one lists pool bytes) ≡ true
      → has_number b (list_of other lists pool bytes) ≡ false

-- whatever lists the pool has, they stay as they are
pub record KeepsLists (old new : PoolTable) (before after : List ℕ) : Type 0 where
  pub linked : (lists : ListHeads) → AreLinked lists old before → AreLinked lists new after
  pub same : (lists : ListHeads) → AreLinked lists old before → (name : ListName)
      → list_of name lists new after ≡ list_of name lists old before

-- what a call on one list leaves unchanged: the other list, and what the blocks stand for
pub record LeavesOthers (name : ListName) (pool : PoolTable) (old new : ListHeads) (before after : List ℕ) : Type 0 where
  pub linked : AreLinked new pool after
  pub list : (other : ListName) → other ≢ name → list_of other new pool after ≡ list_of other old pool before
  pub blocks : pool_of pool after ≡ pool_of pool before
