-- Repeated changes and items.
use Rattle.std.proofs.Common.{◌≡◌, ℕ, zero, suc, refl, ap, ◌∙◌, Option, Some, None}
use Rattle.kernel_core.proofs.Common.{times, Job, Scheduler, job, after_front, after_items}

pub times_none : {A : Type 0} (change : A → A) (a : A) → times 0 change a ≡ a
unfolding times
times_none change a = refl

pub times_next : {A : Type 0} (n : ℕ) (change : A → A) (a : A) → times (suc n) change a ≡ times n change (change a)
unfolding times
times_next n change a = refl

pub times_same : {A : Type 0} (n : ℕ) (change : A → A) (a : A) → change a ≡ a → times n change a ≡ a
times_same zero change a same = times_none change a
times_same (suc n) change a same = times_next n change a ∙ ap (times n change) same ∙ times_same n change a same

-- what every item that is no job preserves
pub after_items-keep : {X : Type 0} (P : Scheduler X → Type 0) → ((s : Scheduler X) → job s ≡ None → P s → P (after_front s))
    → (n : ℕ) (s : Scheduler X) → P s → P (after_items n s)
after_items-keep P keeps zero s p = p
after_items-keep {X} P keeps (suc n) s p = by_job (job s) refl (after_items-keep P keeps n (after_front s))
  where
    by_job : (asked : Option (Job X)) → job s ≡ asked → (P (after_front s) → P (after_items n (after_front s))) → P (after_items (suc n) s)
    by_job (Some next) h later = rw h p
    by_job None h later = rw h (later (keeps s h p))
