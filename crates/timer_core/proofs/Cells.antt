-- The cells by name are the cells of the table by slot.
use Rattle.timer_core.proofs.Words.{◌≡◌, ℕ, zero, suc, ◌+◌, ◌-◌, ◌<◌, ◌≤◌, true, false, List, [], ◌∷◌, length, refl, arith, set, get_or, map, replicate, get_or-set_same, Timer, Cell, LinkedCell, IsNamed, all_timers, is_timer, with_cell, cell_in, cell_under, zero_cell, slot_of, are_placed, named_cells, zero_linked}

all_placed : are_placed 0 all_timers ≡ true
unfolding all_timers
all_placed = refl

count : length all_timers ≡ 192
unfolding all_timers
count = refl

module _ (n : ℕ) where
  module _ (timer : Timer) where
    module _ (later : List Timer) where
      -- the first of the placed names
      record IsPlaced : Type 0 where
        pub slot : slot_of timer ≡ n
        pub named : IsNamed timer
        pub rest : are_placed (n + 1) later ≡ true

      first_placed : are_placed n (timer ∷ later) ≡ true → IsPlaced
      first_placed e = grind arith

module _ (t : Timer) where
  apart : (u : Timer) → (slot_of t ≡ slot_of u → ⊥) → is_timer t u ≡ false
  apart u far = grind arith

  -- the timer's slot is before all of these
  unchanged : (cell : Cell) (n : ℕ) (names : List Timer) (cells : List LinkedCell) → slot_of t < n → are_placed n names ≡ true →
      with_cell t cell (named_cells names cells) ≡ named_cells names cells
  unchanged cell n [] cells low e = refl
  unchanged cell n (u ∷ us) [] low e = refl
  unchanged cell n (u ∷ us) (c ∷ cs) low e = grind (arith, unchanged cell (n + 1) us cs)

  set_from : (x : LinkedCell) (n : ℕ) (names : List Timer) (cells : List LinkedCell) → IsNamed t → n ≤ slot_of t
      → are_placed n names ≡ true →
      named_cells names (set cells (slot_of t - n) x) ≡ with_cell t (cell_in x) (named_cells names cells)
  set_from x n [] cells named from e = refl
  set_from x n (u ∷ us) [] named from e = refl
  set_from x n (u ∷ us) (c ∷ cs) named from e =
      let kept = unchanged (cell_in x) (n + 1) us cs in
      grind (arith, apart, first_placed n u us e, set_from x (n + 1) us cs named)

  read_from : (n : ℕ) (names : List Timer) (cells : List LinkedCell) → IsNamed t → n ≤ slot_of t → slot_of t < n + length names
      → are_placed n names ≡ true →
      cell_under t (named_cells names cells) ≡ cell_in (get_or cells (slot_of t - n) zero_linked)
  read_from n [] cells named from below e = absurd (omega arith)
  read_from n (u ∷ us) [] named from below e = refl
  read_from n (u ∷ us) (c ∷ cs) named from below e =
      grind (arith, apart, first_placed n u us e, read_from (n + 1) us cs named)

kept_at : (names : List Timer) (cells : List LinkedCell) (k : ℕ) (x : LinkedCell) → cell_in x ≡ cell_in (get_or cells k zero_linked) →
    named_cells names (set cells k x) ≡ named_cells names cells
kept_at [] cells k x e = refl
kept_at (u ∷ us) [] k x e = refl
kept_at (u ∷ us) (c ∷ cs) zero x e =
    grind arith
kept_at (u ∷ us) (c ∷ cs) (suc k) x e = grind (arith, kept_at us cs k x e)

pub cells_at_boot : named_cells all_timers (replicate 192 zero_linked)
    ≡ map (λ timer. record { timer = timer; cell = zero_cell }) all_timers
unfolding all_timers
cells_at_boot = refl

module _ (cells : List LinkedCell) where
  pub cells_kept : (k : ℕ) (x : LinkedCell) → cell_in x ≡ cell_in (get_or cells k zero_linked) →
      named_cells all_timers (set cells k x) ≡ named_cells all_timers cells
  cells_kept k x e = grind (arith, kept_at)

  module _ (t : Timer) where
    pub cell_read : IsNamed t
        → cell_under t (named_cells all_timers cells) ≡ cell_in (get_or cells (slot_of t) zero_linked)
    cell_read named = grind (arith, read_from, count, all_placed)

    module _ (x : LinkedCell) where
      pub cells_set : IsNamed t →
          named_cells all_timers (set cells (slot_of t) x) ≡ with_cell t (cell_in x) (named_cells all_timers cells)
      cells_set named =
          let whole : slot_of t - 0 ≡ slot_of t = omega arith in grind (arith, set_from, all_placed)

pub cell_given : (cells : List LinkedCell) (t : Timer) (x : LinkedCell) → IsNamed t → slot_of t < length cells →
    cell_under t (named_cells all_timers (set cells (slot_of t) x)) ≡ cell_in x
cell_given cells t x named within = grind (arith, cell_read, get_or-set_same)
