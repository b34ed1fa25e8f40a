-- The arming numbers of the callback timers: an expiry that was taken off the timer list counts only while its number is
-- the present one.
use Rattle.std.specs.Prelude.{ℕ, ◌+◌, ◌-◌, ◌*◌, Bool, List, [], ◌∷◌, fold, replicate, ◌==◌, slice_index, slice_set}

pub record Armings : Type 0 where
  -- the present number of each callback timer, 4 for each application
  pub present : List ℕ
  -- the number of numbers drawn, the 0 at boot included. Each drawn number is below it
  pub drawn : ℕ

abbrev pub no_armings : Armings
no_armings = record { present = replicate 64 0; drawn = 1 }

abbrev pub callback_slot : ℕ → ℕ → ℕ
callback_slot p c = 4 * (p - 4) + c

abbrev pub present_arming : ℕ → ℕ → Armings → ℕ
present_arming p c armings = slice_index armings.present (callback_slot p c)

abbrev pub is_present_arming : ℕ → ℕ → ℕ → Armings → Bool
is_present_arming p c arming armings = present_arming p c armings == arming

-- callback timer c of p gets a number that was never used
abbrev pub renumbered : ℕ → Armings → ℕ → Armings
renumbered p armings c = record { present = slice_set armings.present (callback_slot p c) armings.drawn; drawn = armings.drawn + 1 }

-- so does each callback timer of p
abbrev pub all_renumbered : ℕ → Armings → Armings
all_renumbered p armings = fold (renumbered p) armings (0 ∷ 1 ∷ 2 ∷ 3 ∷ [])
