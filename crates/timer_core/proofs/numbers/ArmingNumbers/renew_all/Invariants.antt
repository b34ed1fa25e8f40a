use Rattle.timer_core.proofs.Lemmas.{◌≡◌, ◌+◌, ◌<◌, ◌≤◌, ℕ, false, is_present_arming, present_arming, renumbered_below}
use Rattle.timer_core.proofs.numbers.ArmingNumbers.renew_all.Given as goal

abbrev pub invariant-loop-number : goal.invariant-loop-number
invariant-loop-number l =
    record {
      so_far : l.self ≡ renumbered_below l.pid.0 l.number l.fn.self;
      drawn : l.self.drawn ≡ l.fn.self.drawn + l.number;
      cancelled : (c arming : ℕ) → c < l.number → arming < l.fn.self.drawn → is_present_arming l.pid.0 c arming l.self ≡ false;
      others : (p c : ℕ) → 4 ≤ p → c < 4 → (p ≡ l.pid.0 → ⊥) → present_arming p c l.self ≡ present_arming p c l.fn.self;
    }
