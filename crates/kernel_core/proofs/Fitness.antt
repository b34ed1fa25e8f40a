-- Expiries in the queue when arming numbers are drawn.
use Rattle.std.proofs.Common.{◌≡◌, ℕ, ◌≤◌, ◌<◌, Bool, true, false, List, [], ◌∷◌, refl, All, map, ◌==◌}
use Rattle.kernel_core.proofs.Common.{decide, All-head, All-tail, Queued, event_carrying, Armings, is_present_arming, present_arming, IsQueueable, HasQueueableEvents, cancelled_if, expiries_cancelled, is_cancelled, machine_of, is_callback_timer, with_timers, KernelFields, Timers}
use Rattle.timer_core.specs.Code.NumberedTimers.{NumberedTimers}

same_timer : (p c q d : ℕ) → is_callback_timer p c q d ≡ true → (q ≡ p) × (d ≡ c)
same_timer = grind decide

module _ (test : ℕ → ℕ → Bool) (old new : Armings) where
  -- callback timers that pass the test got new numbers; the others keep theirs
  pub record AreRenewed : Type 0 where
    pub cancelled : (p c arming : ℕ) → 4 ≤ p → p ≤ 19 → c < 4 → test p c ≡ true → arming < old.drawn
        → is_present_arming p c arming new ≡ false
    pub others : (p c : ℕ) → 4 ≤ p → p ≤ 19 → c < 4 → test p c ≡ false → present_arming p c new ≡ present_arming p c old

  -- so exactly their expiries are cancelled
  pub cancelled : (events : List (Queued ℕ)) → AreRenewed
      → All (IsQueueable old.drawn) events
      → map (event_carrying (is_cancelled new)) events ≡ map (cancelled_if test) (map (event_carrying (is_cancelled old)) events)
  cancelled [] renewed fit = refl
  cancelled (event ∷ events) renewed fit =
      grind (
        decide,
        cancelled events renewed (All-tail (IsQueueable old.drawn) event events fit),
        All-head
            (IsQueueable old.drawn) event events fit,
      )

-- the same for the kernel's machine
module _ (k : KernelFields) (new : NumberedTimers) (timers : Timers) (fit : HasQueueableEvents k) (changed : new.timers ≡ timers) where
  cancelled_machine : (test : ℕ → ℕ → Bool) → AreRenewed test k.timers.value.armings new.armings
      → machine_of (record k { timers = record k.timers { value = new } }) ≡ expiries_cancelled test (with_timers timers (machine_of k))
  cancelled_machine test renewed =
      rw (cancelled test k.timers.value.armings new.armings k.scheduler.state.events renewed fit, changed) refl

  module _ (p : ℕ) where
    pub renewed_one : (c : ℕ) → ((arming : ℕ) → arming < k.timers.value.armings.drawn → is_present_arming p c arming new.armings ≡ false)
        → ((q d : ℕ) → 4 ≤ q → d < 4 → (q ≡ p → d ≡ c → ⊥) → present_arming q d new.armings ≡ present_arming q d k.timers.value.armings)
        → machine_of (record k { timers = record k.timers { value = new } })
        ≡ expiries_cancelled (is_callback_timer p c) (with_timers timers (machine_of k))
    renewed_one c gone others = cancelled_machine (is_callback_timer p c) (grind (decide, others, same_timer))

    pub renewed_all : ((c arming : ℕ) → c < 4 → arming < k.timers.value.armings.drawn → is_present_arming p c arming new.armings ≡ false)
        → ((q d : ℕ) → 4 ≤ q → d < 4 → (q ≡ p → ⊥) → present_arming q d new.armings ≡ present_arming q d k.timers.value.armings)
        → machine_of (record k { timers = record k.timers { value = new } })
        ≡ expiries_cancelled (λ q c. q == p) (with_timers timers (machine_of k))
    renewed_all gone others = cancelled_machine (λ q c. q == p) (grind (decide, others))
