-- Names of timers and their slots.
use Rattle.timer_core.proofs.Words.{◌≡◌, ◌<◌, ℕ, true, false, arith, Timer, slot_of, timer_at, IsNamed, is_timer}

pub timer_at_slot : (t : Timer) → IsNamed t → timer_at (slot_of t) ≡ t
timer_at_slot t named = grind arith

module _ (t : Timer) where
  pub is_timer_itself : is_timer t t ≡ true
  is_timer_itself = grind arith

  pub slot_below : IsNamed t → slot_of t < 192
  slot_below h = grind arith

  pub other_at : (k : ℕ) → IsNamed (timer_at k) → (k ≡ slot_of t → ⊥) → is_timer t (timer_at k) ≡ false
  other_at k named far = grind arith

  module _ (u : Timer) where
    pub same_timer : is_timer t u ≡ true → t ≡ u
    same_timer e = grind arith

    pub is_timer_flips : is_timer t u ≡ false → is_timer u t ≡ false
    is_timer_flips e = grind arith

module _ (k : ℕ) where
  -- a slot and its timer

  pub slot_at : IsNamed (timer_at k) → slot_of (timer_at k) ≡ k
  slot_at named = grind arith

  pub at_below : IsNamed (timer_at k) → k < 192
  at_below named = grind arith
