-- What the packet queue stores, and the effects and results of its calls.
use Rattle.std.specs.Prelude.{ℕ, ◌<◌, ◌≤◌, length, map, IfSome, eqb}
use Rattle.std.specs.List.{IsDistinct, All}
use Rattle.std.specs.Option.{option_map_or}
use Rattle.mote_types.specs.declared.event.Pid.{Pid}
use Rattle.device_core.specs.PacketQueue.{PacketQueue, free_slot, with_frame}

abbrev pub receiver_number : Pid → ℕ
receiver_number pid = pid.0

-- a frame has arrived: it is held under the free slot, if there is one
abbrev pub arrived : ℕ → PacketQueue → PacketQueue
arrived len queue = option_map_or (λ slot. with_frame slot len queue) (free_slot queue) queue

-- what holds of every queue
pub record IsWellFormed (queue : PacketQueue) : Type 0 where
  pub few : length queue.frames ≤ 8
  -- no two frames have the same slot
  pub distinct : IsDistinct eqb (map (λ frame. frame.slot) queue.frames)
  pub slots : All (λ frame. frame.slot < 8) queue.frames
  pub told : queue.announced ≤ length queue.frames
  -- the receiver is an application
  pub receiver : IfSome queue.receiver (λ p. (4 ≤ p) × (p ≤ 19))
