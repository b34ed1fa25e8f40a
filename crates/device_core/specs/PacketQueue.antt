-- Packets: the held frames, in the order of arrival.
use Rattle.std.specs.Prelude.{ℕ, ◌+◌, ◌-◌, Bool, false, not, List, [], ◌∷◌, ◌++◌, length, drop, Option, Some, None, if◌then◌else◌, ◌==◌, nat_lt, slice_get}
use Rattle.std.specs.List.{list_any, find}
use Rattle.std.specs.Option.{option_map, option_map_or}
use Rattle.mote_types.specs.Kinds.{ProcessNumber}
use Rattle.mote_types.specs.Limits.{held_frames}
use Rattle.device_core.specs.declared.frame.Frame.{Frame}

pub record PacketQueue : Type 0 where
  pub frames : List Frame
  -- how many of the first frames were announced to the receiver
  pub announced : ℕ
  pub receiver : Option ProcessNumber

abbrev pub no_packets : PacketQueue
no_packets = record { frames = []; announced = 0; receiver = None }

abbrev pub is_full : PacketQueue → Bool
is_full queue = not (nat_lt (length queue.frames) held_frames)

abbrev pub is_held : PacketQueue → ℕ → Bool
is_held queue slot = list_any (λ frame. frame.slot == slot) queue.frames

unfoldable pub free_slot : PacketQueue → Option ℕ
free_slot queue = find (λ slot. not (is_held queue slot)) (0 ∷ 1 ∷ 2 ∷ 3 ∷ 4 ∷ 5 ∷ 6 ∷ 7 ∷ [])

abbrev pub with_frame : ℕ → ℕ → PacketQueue → PacketQueue
with_frame slot len queue = record queue { frames = queue.frames ++ record { slot = slot; len = len } ∷ [] }

abbrev pub front : PacketQueue → Option Frame
front queue = slice_get queue.frames 0

abbrev pub front_slot : PacketQueue → Option ℕ
front_slot queue = option_map (λ frame. frame.slot) (front queue)

abbrev pub unannounced : PacketQueue → Option Frame
unannounced queue = slice_get queue.frames queue.announced

abbrev pub with_announced : PacketQueue → PacketQueue
with_announced queue = record queue { announced = queue.announced + 1 }

-- the number of announced frames decreases by one, but not below 0
abbrev pub without_front : PacketQueue → PacketQueue
without_front queue = record queue { frames = drop 1 queue.frames; announced = queue.announced - 1 }

abbrev pub with_receiver : ProcessNumber → PacketQueue → PacketQueue
with_receiver p queue = record queue { receiver = Some p }

abbrev pub is_receiver : PacketQueue → ProcessNumber → Bool
is_receiver queue p = option_map_or (λ receiver. receiver == p) queue.receiver false

-- p has ended. If it was the receiver, there is no receiver, and no frame counts as announced
abbrev pub forgotten : ProcessNumber → PacketQueue → PacketQueue
forgotten p queue = if is_receiver queue p then record queue { receiver = None; announced = 0 } else queue
