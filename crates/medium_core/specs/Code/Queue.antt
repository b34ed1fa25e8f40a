-- The frames in flight in a queue and a heap.
use Rattle.std.specs.Prelude.{◌≡◌, ℕ, ◌+◌, ◌≤◌, ◌<◌, Bool, true, false, List, [], ◌∷◌, length, nat_lt}
use Rattle.std.specs.List.{AllByRecursion}
use Rattle.medium_core.specs.declared.flight.Flight.{Flight}
use Rattle.medium_core.specs.Code.Heap.{Pile}

pub record Queue : Type 0 where
  pub room : ℕ
  pub flights : List Flight

-- each arrives no earlier than those before it
abbrev pub InOrder : List Flight → Type 0
InOrder [] = Unit {0}
InOrder (f ∷ flights) = AllByRecursion (λ (g : Flight). f.due ≤ g.due) flights × InOrder flights

-- when the last one arrives, or else that moment
abbrev pub last_due : ℕ → List Flight → ℕ
last_due due [] = due
last_due due (f ∷ flights) = last_due f.due flights

-- one of the heap arrives before all of the queue
abbrev pub is_overtaken : List Flight → List Flight → Bool
is_overtaken [] queue = false
is_overtaken (f ∷ heap) [] = true
is_overtaken (f ∷ heap) (g ∷ queue) = nat_lt f.due g.due

-- queue and heap need no more memory, and the last of the queue arrives after all of the heap
pub record HasRoom (room capacity : ℕ) (heap : Pile) (queue : List Flight) : Type 0 where
  pub order : InOrder queue
  pub heap_order : InOrder heap.flights
  pub ahead : AllByRecursion (λ (f : Flight). f.due < last_due 0 queue) heap.flights
  pub within : length heap.flights + length queue ≤ room
  pub taken : room ≤ capacity
  pub heap_taken : room ≤ heap.room

-- and the next to arrive is the first of the queue
pub record InTurn (room capacity : ℕ) (heap : Pile) (queue : List Flight) : Type 0 where
  pub has_room : HasRoom room capacity heap queue
  pub first : is_overtaken heap.flights queue ≡ false
