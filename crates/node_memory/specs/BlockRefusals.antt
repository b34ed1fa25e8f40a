-- When a call on one block is refused: of managed or heap memory, or of a pool. `block` is the bytes of that block, if it is live.
use Rattle.std.specs.Prelude.{ℕ, Bool, not, ◌||◌, [], Option, Some, None, is_some, unwrap_or, if◌then◌else◌, ◌==◌, nat_le, nat_lt}
use Rattle.std.specs.Option.{option_or}
use Rattle.mote_types.specs.Kinds.{BlockNumber, Offset, Bytes}
use Rattle.mote_types.specs.Limits.{last_block, chunk_limit}
use Rattle.mote_types.specs.Bytes.{is_within}
use Rattle.mote_types.specs.declared.refusal.Refusal.{Refusal}

abbrev pub is_name : BlockNumber → Bool
is_name n = nat_le n last_block

abbrev pub alloc_refusal : BlockNumber → ℕ → Option Bytes → Option Refusal
alloc_refusal n size block =
    if not (is_name n) then Some Refusal.BadName
    else if is_some block then Some Refusal.InUse
    else if size == 0 then Some Refusal.Range
    else None

abbrev pub live_refusal : BlockNumber → Option Bytes → Option Refusal
live_refusal n block =
    if not (is_name n) then Some Refusal.BadName
    else if not (is_some block) then Some Refusal.NotLive
    else None

abbrev pub realloc_refusal : BlockNumber → ℕ → Option Bytes → Option Refusal
realloc_refusal n size block = option_or (live_refusal n block) (if size == 0 then Some Refusal.Range else None)

abbrev pub write_refusal : BlockNumber → Offset → ℕ → Option Bytes → Option Refusal
write_refusal n at len block = option_or (live_refusal n block) (if is_within at len (unwrap_or block []) then None else Some Refusal.Range)

abbrev pub read_refusal : BlockNumber → Offset → ℕ → Option Bytes → Option Refusal
read_refusal n at len block = option_or (live_refusal n block)
    (if nat_lt chunk_limit len || not (is_within at len (unwrap_or block [])) then Some Refusal.Range else None)
