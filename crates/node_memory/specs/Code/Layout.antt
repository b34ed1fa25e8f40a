-- How managed memory, the heap and the pools are laid out in the arena.
use Rattle.std.specs.Prelude.{◌≡◌, ℕ, ◌+◌, ◌≤◌, List, [], ◌∷◌, length}
use Rattle.arena_core.specs.declared.span.Span.{Span}
use Rattle.mmem_core.specs.Code.HandleTable.{IsWithin}
use Rattle.heap_core.specs.Code.HeapBytes as heap
use Rattle.memb_core.specs.Code.Links.{AreLinked}
use Rattle.node_memory.specs.declared.listed_pool.ListedPool.{ListedPool}
use Rattle.node_memory.specs.Code.Placed.{Layout}

abbrev pub end_of : Span → ℕ
end_of span = span.at + span.len

-- from that offset on the pools' spans follow one another, and their bytes link their lists
abbrev pub LieBehind : ℕ → List ListedPool → List ℕ → Type 0
LieBehind from [] bytes = Unit {0}
LieBehind from (listed ∷ later) bytes =
    (from ≤ listed.pool.span.at) × AreLinked listed.lists listed.pool bytes × LieBehind (end_of listed.pool.span) later bytes

-- the arena's bytes are as the calls left them: the heap is after managed memory, and the pools are after the heap
pub record IsLaidOut (layout : Layout) : Type 0 where
  pub managed : IsWithin layout.managed layout.bytes
  -- process 3 may hold frames
  pub holder : 1 ≤ layout.managed.quotas.owners
  -- the table has an entry for each name
  pub names : length layout.managed.places ≡ 272
  pub behind : end_of layout.managed.span ≤ layout.heap.span.at
  pub heap : heap.IsLaidOut layout.heap layout.bytes
  pub count : length layout.pools ≡ 4
  pub pools : LieBehind (end_of layout.heap.span) layout.pools layout.bytes
