-- If nothing more happens, a machine stays as it is.
use Rattle.kernel_core.proofs.Common.{decide, Applications, Running, after_step, after_steps, is_still}
use Rattle.std.proofs.Common.{◌≡◌, ℕ, zero, suc, true, refl, append-nil}

still_after_step : (says : Applications) (r : Running) → is_still r.machine ≡ true → after_step says r ≡ r
still_after_step = grind (decide, append-nil)

pub still_after_steps : (says : Applications) (n : ℕ) (r : Running) → is_still r.machine ≡ true → after_steps says n r ≡ r
still_after_steps says zero r h = refl
still_after_steps says (suc n) r h = rw (still_after_step says r h) (still_after_steps says n r h)
