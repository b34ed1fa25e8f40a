-- Managed memory as its users see it: a map from handles of processes to byte lists. It has neither positions nor an
-- order of blocks.
use Rattle.std.specs.Prelude.{ℕ, ◌-◌, Bool, List, [], length, replicate, get_or, slice_set, sum_by, nat_le, Option, Some, None, unwrap_or}
use Rattle.std.specs.List.{range_with_len}
use Rattle.std.specs.Option.{option_map_or}
use Rattle.mote_types.specs.Kinds.{ProcessNumber, Handle, Offset, Bytes}
use Rattle.mote_types.specs.Limits.{all_blocks, blocks_each}
use Rattle.mote_types.specs.BlockNames.{number_of}
use Rattle.mote_types.specs.declared.refusal.Refusal.{Refusal}
use Rattle.mote_types.specs.Rounding.{up4}
use Rattle.mote_types.specs.Bytes.{zeros, overwritten}

pub record ManagedStore : Type 0 where
  pub capacity : ℕ
  -- the most bytes that each process may hold, if that is limited
  pub quota : Option ℕ
  -- for each name the bytes of its block, if it is live
  pub blocks : List (Option Bytes)

abbrev pub empty_store : ℕ → Option ℕ → ManagedStore
empty_store capacity quota = record { capacity = capacity; quota = quota; blocks = replicate all_blocks None }

abbrev pub block_of : ProcessNumber → Handle → ManagedStore → Option Bytes
block_of p handle store = get_or store.blocks (number_of p handle) None

abbrev pub size_of : Option Bytes → ℕ
size_of block = option_map_or (λ bytes. up4 (length bytes)) block 0

abbrev pub unused : ManagedStore → ℕ
unused store = store.capacity - sum_by size_of store.blocks

abbrev pub handles : List Handle
handles = range_with_len 0 blocks_each

abbrev pub taken_by : ProcessNumber → ManagedStore → ℕ
taken_by p store = sum_by (λ handle. size_of (block_of p handle store)) handles

-- the bytes that are free for p: with a quota, what p's own blocks leave of it; otherwise what all blocks leave of the capacity
abbrev pub free : ProcessNumber → ManagedStore → ℕ
free p store = option_map_or (λ quota. quota - taken_by p store) store.quota (unused store)

abbrev pub fits : ProcessNumber → ℕ → ManagedStore → Bool
fits p n store = nat_le (up4 n) (free p store)

-- why a block that doesn't fit is refused
abbrev pub shortage : ManagedStore → Refusal
shortage store = option_map_or (λ _. Refusal.OverQuota) store.quota Refusal.NoRoom

abbrev pub with_block : ProcessNumber → Handle → Option Bytes → ManagedStore → ManagedStore
with_block p handle block store = record store { blocks = slice_set store.blocks (number_of p handle) block }

abbrev pub allocated : ProcessNumber → Handle → ℕ → ManagedStore → ManagedStore
allocated p handle n = with_block p handle (Some (zeros n))

abbrev pub freed : ProcessNumber → Handle → ManagedStore → ManagedStore
freed p handle = with_block p handle None

abbrev pub bytes_of : ProcessNumber → Handle → ManagedStore → Bytes
bytes_of p handle store = unwrap_or (block_of p handle store) []

abbrev pub with_bytes : ProcessNumber → Handle → Offset → Bytes → ManagedStore → ManagedStore
with_bytes p handle at bytes store = with_block p handle (Some (overwritten at bytes (bytes_of p handle store))) store

-- all bytes of p's block become the first bytes of q's block
abbrev pub copied : ProcessNumber → Handle → ProcessNumber → Handle → ManagedStore → ManagedStore
copied p source q target store = with_bytes q target 0 (bytes_of p source store) store
