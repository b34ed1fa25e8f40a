-- Packet queues that never occur.
use Rattle.std.proofs.Common.{ℕ, List, [], ◌∷◌, replicate, Option, Some, None, arith}
use Rattle.device_core.proofs.Common.{PacketQueue, IsWellFormed, Frame}

abbrev held : List Frame → ℕ → Option ℕ → PacketQueue
held frames announced receiver = record { frames = frames; announced = announced; receiver = receiver }

abbrev in_slot : ℕ → Frame
in_slot slot = record { slot = slot; len = 1 }

-- more frames were announced than are held
more_told : IsWellFormed (held (in_slot 0 ∷ []) 2 None) → ⊥
more_told queue = absurd (omega (arith, queue.told))

-- the receiver is a kernel process, or one that no mote has
kernel_receives : IsWellFormed (held [] 0 (Some 3)) → ⊥
kernel_receives queue = absurd (omega (arith, queue.receiver.0))

no_application_receives : IsWellFormed (held [] 0 (Some 20)) → ⊥
no_application_receives queue = absurd (omega (arith, queue.receiver.1))

nine_frames : IsWellFormed (held (replicate 9 (in_slot 0)) 0 None) → ⊥
nine_frames queue = absurd (omega (arith, queue.few))
