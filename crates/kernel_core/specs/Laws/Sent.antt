-- Every note of a packet has its sender.
use Rattle.std.specs.Prelude.{◌≡◌, ℕ, false, List, ◌++◌, Some}
use Rattle.std.specs.List.{list_any}
use Rattle.arrayvec.specs.ArrayVec.{ArrayVec}
use Rattle.mote_types.specs.Kinds.{Handle}
use Rattle.mote_types.specs.declared.call.Call.{Call}
use Rattle.mote_types.specs.declared.entry.Entry.{Entry}
use Rattle.kernel_core.specs.Laws.BlockHistory.{blocks_of}
use Rattle.kernel_core.specs.Laws.Deeds.{managed_touch}
use Rattle.kernel_core.specs.Laws.OwnTurns.{Turn, is_turn_entry, up_to_call}

-- the last turn of these entries sends a block, which has these bytes by its sender's own turns
pub record IsSent (entries : List Entry) (bytes : ArrayVec ℕ) : Type 0 where
  pub earlier : List Entry
  pub turn : Turn
  pub h : Handle
  pub sends : turn.call ≡ Call.PacketSend h
  pub between : List Entry
  pub no_turn : list_any is_turn_entry between ≡ false
  pub split : up_to_call earlier turn ++ between ≡ entries
  pub block : blocks_of managed_touch entries turn.p h ≡ Some bytes.items
