-- If something is left to post, every free slot of the queue was taken.
use Rattle.kernel_core.proofs.Common.{decide, has_room, KernelFields, Machine, free_places, machine_of, times, post_first_due, is_any_due, post_due, announce_next, has_news, announce}
use Rattle.std.proofs.Common.{◌≡◌, ℕ, zero, suc, ◌+◌, Bool, true, false, length, ap, sym, ◌∙◌, arith, length-append}
use Rattle.kernel_core.proofs.FreePlaces.{room_of}
use Rattle.kernel_core.proofs.Repeating.{times_none, times_next, times_same}

abbrev waiting : Machine → ℕ
waiting m = length m.scheduler.events

-- a change takes a slot if something is left, and otherwise changes nothing
module _ (change : Machine → Machine) (is_left : Machine → Bool) (takes : (m : Machine) → is_left m ≡ true
    → waiting (change m) ≡ suc (waiting m))
    (stops : (m : Machine) → is_left m ≡ false → change m ≡ m) where
  filled : (n : ℕ) (m : Machine) → is_left (times n change m) ≡ true → waiting (times n change m) ≡ n + waiting m
  filled zero m left = ap waiting (times_none change m) ∙ omega arith
  filled (suc n) m left = grind (decide, times_next, times_same, filled n (change m))

  -- so no slot is free
  pub full : (m : Machine) → is_left (times (free_places m) change m) ≡ true → has_room (times (free_places m) change m).scheduler ≡ false
  full m left = grind (arith, filled (free_places m) m left)

due_takes : (m : Machine) → is_any_due m ≡ true → waiting (post_first_due m) ≡ suc (waiting m)
due_takes = grind (decide, length-append)

pub due_stops : (m : Machine) → is_any_due m ≡ false → post_first_due m ≡ m
due_stops = grind decide

pub due_or_full : (m : Machine) → is_any_due (post_due m) ≡ true → has_room (post_due m).scheduler ≡ false
due_or_full m = grind (decide, full post_first_due is_any_due due_takes due_stops m)

-- if a slot is free, nothing due is left
pub posted_all : (m : Machine) (k : KernelFields) → machine_of k ≡ times (free_places m) post_first_due m
    → has_room k.scheduler.state ≡ true
    → machine_of k ≡ post_due m
posted_all m k same room =
    let free =
    sym (ap (λ (after : Machine). has_room after.scheduler) same) ∙ (room_of k ∙ room) in
    same ∙ grind (decide, full post_first_due is_any_due due_takes due_stops m)

abbrev is_news : Machine → Bool
is_news m = has_news m.packets

news_takes : (m : Machine) → is_news m ≡ true → waiting (announce_next m) ≡ suc (waiting m)
news_takes = grind (decide, length-append)

news_stops : (m : Machine) → is_news m ≡ false → announce_next m ≡ m
news_stops = grind decide

pub told_or_full : (m : Machine) → has_news (announce m).packets ≡ true → has_room (announce m).scheduler ≡ false
told_or_full m = grind (decide, full announce_next is_news news_takes news_stops m)
