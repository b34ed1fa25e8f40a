-- What a transcript shows of a process's blocks: only what its own calls made of them.
use Rattle.std.specs.Prelude.{◌≡◌, ℕ, ◌≤◌, Bool, true, ◌&&◌, List, Some, is_none, is_some, nat_le, nat_lt, length, ◌↔◌}
use Rattle.std.specs.List.{list_any, list_all}
use Rattle.std.specs.Option.{option_map}
use Rattle.arrayvec.specs.ArrayVec.{ArrayVec}
use Rattle.mote_types.specs.Kinds.{Handle}
use Rattle.mote_types.specs.Limits.{last_block, last_application}
use Rattle.mote_types.specs.declared.reply.Reply.{Reply}
use Rattle.mote_types.specs.declared.refusal.Refusal.{Refusal}
use Rattle.mote_types.specs.declared.entry.Entry.{Entry}
use Rattle.mote_types.specs.Bytes.{range_of}
use Rattle.kernel_core.specs.Laws.Deeds.{Deed, Touch, deed}
use Rattle.kernel_core.specs.Laws.BlockHistory.{Blocks, BlockUse, blocks_of, use_of}
use Rattle.kernel_core.specs.Laws.OwnTurns.{HasCall, Turn, up_to_call}

-- at least one handle, and all of them are numbers of blocks
abbrev pub are_names : List Handle → Bool
are_names names = nat_lt 0 (length names) && list_all (λ name. nat_le name last_block) names

-- a reply that a call with this use of blocks may have, where the caller has these blocks before it
pub record IsReplyFor (does : BlockUse) (blocks : Blocks) (reply : Reply) : Type 0 where
  -- a read whose reply is bytes returns those of the block
  pub reads : (bytes : ArrayVec ℕ) (name at len : ℕ) → reply ≡ Reply.Bytes bytes → does.reads ≡ Some (name, at, len)
      → option_map (range_of at len) (blocks name) ≡ Some bytes.items
  -- the call is refused as not live exactly where a block that it needs isn't there
  pub live : are_names does.needs ≡ true
      → (reply ≡ Reply.Refused Refusal.NotLive) ↔ (list_any (λ name. is_none (blocks name)) does.needs ≡ true)
  -- and as in use exactly where the block that it makes is there
  pub unused : are_names does.makes ≡ true
      → (reply ≡ Reply.Refused Refusal.InUse) ↔ (list_any (λ name. is_some (blocks name)) does.makes ≡ true)

-- of managed or heap memory: each reply is one for the blocks that the caller's own turns made
abbrev pub AreOwn : (Deed → Touch) → List Entry → Type 0
AreOwn touch X =
    (before : List Entry) (turn : Turn) (reply : Reply) → turn.p ≤ last_application → HasCall X before turn reply
    → IsReplyFor (use_of (touch (deed turn.call))) (blocks_of touch (up_to_call before turn) turn.p) reply
