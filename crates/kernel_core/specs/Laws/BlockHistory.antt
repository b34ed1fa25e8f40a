-- The blocks of a process, by its own turns only.
use Rattle.std.specs.Prelude.{ℕ, List, [], ◌∷◌, fold, Option, Some, None, if◌then◌else◌, ◌==◌}
use Rattle.std.specs.Option.{option_map, option_and_then}
use Rattle.mote_types.specs.Kinds.{ProcessNumber, Handle, Offset, Bytes}
use Rattle.mote_types.specs.declared.entry.Entry.{Entry}
use Rattle.mote_types.specs.Bytes.{zeros, overwritten, resized}
use Rattle.kernel_core.specs.Laws.Deeds.{Deed, Touch, deed}
use Rattle.kernel_core.specs.Laws.OwnTurns.{own, is_done}

-- the bytes of each block, if it is live
abbrev pub Blocks : Type 0
Blocks = Handle → Option Bytes

abbrev pub no_blocks : Blocks
no_blocks name = None

abbrev pub with_block : Handle → Option Bytes → Blocks → Blocks
with_block name bytes blocks other = if other == name then bytes else blocks other

-- the target's first bytes become those of the source
abbrev pub copied : Option Bytes → Option Bytes → Option Bytes
copied source target = option_and_then (λ bytes. option_map (overwritten 0 bytes) target) source

-- what a call does with blocks of a kind, if it is accepted
pub record BlockUse : Type 0 where
  -- the blocks that must be live for it to be accepted, and the one that it makes
  pub needs : List Handle
  pub makes : List Handle
  -- the range that it reads: from which block, from where on and how much
  pub reads : Option (Handle × Offset × ℕ)
  -- the blocks after it
  pub changes : Blocks → Blocks

abbrev pub no_use : BlockUse
no_use = record { needs = []; makes = []; reads = None; changes = λ blocks. blocks }

-- it needs a block, which becomes this
abbrev pub one_changes : Handle → (Option Bytes → Option Bytes) → BlockUse
one_changes name after = record no_use { needs = name ∷ []; changes = λ blocks. with_block name (after (blocks name)) blocks }

abbrev pub use_of : Touch → BlockUse
use_of (Touch.Makes name length) = record no_use { makes = name ∷ []; changes = with_block name (Some (zeros length)) }
use_of (Touch.Resizes name length) = one_changes name (option_map (resized length))
use_of (Touch.Frees name) = one_changes name (λ bytes. None)
use_of (Touch.Writes name at bytes) = one_changes name (option_map (overwritten at bytes))
use_of (Touch.Copies source target) =
    record no_use { needs = source ∷ target ∷ []; changes = λ blocks. with_block target (copied (blocks source) (blocks target)) blocks }
use_of (Touch.Reads name at len) = record no_use { needs = name ∷ []; reads = Some (name, at, len) }
use_of (Touch.Sends name) = record no_use { needs = name ∷ [] }
use_of Touch.TellsFree = no_use
use_of Touch.Spares = no_use

-- p's blocks of a kind after these entries, by its calls with the reply Done
abbrev pub blocks_of : (Deed → Touch) → List Entry → ProcessNumber → Blocks
blocks_of touch entries p =
    fold (λ blocks turn. if is_done turn.reply then (use_of (touch (deed turn.call))).changes blocks else blocks) no_blocks (own p entries)
