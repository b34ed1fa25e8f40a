-- The heap of frames in flight.
use Rattle.std.specs.Prelude.{ℕ, ◌≤◌, ◌<◌, Bool, ◌&&◌, ◌||◌, ◌==◌, List, [], ◌∷◌, length, map, nat_lt, if◌then◌else◌}
use Rattle.std.specs.BinaryHeap.{IsHeap}
use Rattle.std.specs.List.{AllByRecursion, IsDistinct}
use Rattle.std.specs.declared.cmp.Ordering.{Ordering}
use Rattle.std.specs.Ordering.{flip_args, nat_cmp, on, then_cmp}
use Rattle.medium_core.specs.declared.flight.Flight.{Flight}
use Rattle.medium_core.specs.declared.numbered.Numbered.{Numbered}

-- what callers see: the flights in the order of their arrival, and the number of the next one
pub record Pile : Type 0 where
  pub room : ℕ
  pub number : ℕ
  pub flights : List Flight

-- the greatest arrives first
abbrev pub arrival_cmp : Numbered → Numbered → Ordering
arrival_cmp = flip_args (then_cmp (on (λ (a : Numbered). a.flight.due) nat_cmp) (on (λ (a : Numbered). a.number) nat_cmp))

abbrev pub is_before : Numbered → Numbered → Bool
is_before a b = nat_lt a.flight.due b.flight.due || ((a.flight.due == b.flight.due) && nat_lt a.number b.number)

abbrev pub with_numbered : Numbered → List Numbered → List Numbered
with_numbered a [] = a ∷ []
with_numbered a (b ∷ items) = if is_before a b then a ∷ b ∷ items else b ∷ with_numbered a items

abbrev pub sorted : List Numbered → List Numbered
sorted [] = []
sorted (a ∷ items) = with_numbered a (sorted items)

abbrev pub flights_of : List Numbered → List Flight
flights_of items = map (λ (a : Numbered). a.flight) items

abbrev pub have_same_number : Numbered → Numbered → Bool
have_same_number a b = a.number == b.number

-- the heap needs no more memory, and numbers tell the flights apart
pub record IsHeld (room capacity number : ℕ) (items : List Numbered) : Type 0 where
  pub heap : IsHeap arrival_cmp items
  pub apart : IsDistinct have_same_number items
  pub numbered : AllByRecursion (λ (a : Numbered). a.number < number) items
  pub within : length items ≤ room
  pub taken : room ≤ capacity
