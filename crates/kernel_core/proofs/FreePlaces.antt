-- The free slots of the event queue.
use Rattle.std.proofs.Common.{◌≡◌, suc, ◌+◌, Bool, true, false, length, arith}
use Rattle.kernel_core.proofs.Common.{length-map, has_room, KernelFields, Machine, free_places, machine_of, times}
use Rattle.kernel_core.proofs.Repeating.{times_none, times_next, times_same}
use Rattle.kernel_core.specs.Code.View.{PostsOne}

places_of : (k : KernelFields) → length (machine_of k).scheduler.events ≡ length k.scheduler.state.events
places_of = grind (arith, length-map)

place_taken : (k new : KernelFields) → has_room k.scheduler.state ≡ true
    → length new.scheduler.state.events ≡ length k.scheduler.state.events + 1
    → free_places (machine_of k) ≡ suc (free_places (machine_of new))
place_taken = grind (arith, places_of)

pub room_of : (k : KernelFields) → has_room (machine_of k).scheduler ≡ has_room k.scheduler.state
room_of = grind (arith, places_of)

-- a change, made once for each free slot
abbrev pub for_each : (Machine → Machine) → KernelFields → Machine
for_each change k = times (free_places (machine_of k)) change (machine_of k)

pub none_free : (change : Machine → Machine) (k : KernelFields) → has_room k.scheduler.state ≡ false → machine_of k ≡ for_each change k
none_free = grind (arith, places_of, times_none)

module _ {change : Machine → Machine} {is_posted : Bool} {k new : KernelFields} (posts : PostsOne change is_posted k new) where
  pub made_once : has_room k.scheduler.state ≡ true → is_posted ≡ true → for_each change new ≡ for_each change k
  made_once room is = grind (arith, place_taken, times_next)

  pub none_made : is_posted ≡ false → machine_of new ≡ for_each change k
  none_made is = grind (arith, times_same)
