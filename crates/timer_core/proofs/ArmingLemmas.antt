-- Arming numbers at boot and after draws.
use Rattle.timer_core.proofs.Words.{ℕ, zero, suc, ◌<◌, refl, lit<, All-replicate, Armings, no_armings, renumbered, IsNumbered}

pub numbered_at_boot : IsNumbered no_armings
numbered_at_boot = record { slots = refl; below = All-replicate (λ arming. arming < 1) 64 0 (lit< tt) }

module _ (p : ℕ) where
  -- the first n callback timers of p got new numbers in turn
  abbrev pub renumbered_below : ℕ → Armings → Armings
  renumbered_below zero armings = armings
  renumbered_below (suc n) armings = renumbered p (renumbered_below n armings) n
