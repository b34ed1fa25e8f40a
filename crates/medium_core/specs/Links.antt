-- Links, and which of their frames are lost.
use Rattle.std.specs.Prelude.{ℕ, ◌+◌, ◌-◌, ◌*◌, ◌/◌, ◌%◌, ◌^◌, Bool, true, false, ◌&&◌, nat_le, nat_lt, ◌==◌, if◌then◌else◌}
use Rattle.medium_core.specs.declared.link.Fate.{Fate}
use Rattle.medium_core.specs.declared.link.Link.{Link}
use Rattle.medium_core.specs.declared.link.Loss.{Loss}

-- the number that is drawn after n: the generator of Knuth's MMIX
abbrev pub next_draw : ℕ → ℕ
next_draw n = (n * 6364136223846793005 + 1442695040888963407) % 2 ^ 64

-- whether the rule loses the next frame
abbrev pub is_lost_by : Loss → Bool
is_lost_by Loss.Never = false
is_lost_by (Loss.EveryNth n left) = left == 0
is_lost_by (Loss.ByLot chance drawn) = nat_lt (next_draw drawn / 2 ^ 48) chance

-- the rule for the frames after it
abbrev pub loss_after : Loss → Loss
loss_after Loss.Never = Loss.Never
loss_after (Loss.EveryNth n left) = Loss.EveryNth n (if left == 0 then n - 1 else left - 1)
loss_after (Loss.ByLot chance drawn) = Loss.ByLot chance (next_draw drawn)

abbrev pub is_lost : Link → Bool
is_lost link = is_lost_by link.loss

-- what becomes of the next frame over a link, where free more find room in flight
abbrev pub fate : ℕ → Link → Fate
fate free link = if is_lost link then Fate.Lost else if free == 0 then Fate.Full else Fate.Carried

-- the link after it
abbrev pub after_frame : ℕ → Link → Link
after_frame free link = record link { loss = loss_after link.loss; last = fate free link }

-- the room after it
abbrev pub free_after : ℕ → Link → ℕ
free_after free link = if is_lost link then free else free - 1

-- the numbers of a rule are within their bounds
abbrev pub is_loss : Loss → Bool
is_loss Loss.Never = true
is_loss (Loss.EveryNth n left) = nat_lt left n
is_loss (Loss.ByLot chance drawn) = nat_le chance 65536

-- no frame arrives at once
abbrev pub is_link : Link → Bool
is_link link = nat_lt 0 link.delay && is_loss link.loss
