-- How the code stores what each process's blocks take, and that no quota is exceeded.
use Rattle.std.specs.Prelude.{◌≡◌, ℕ, ◌-◌, ◌*◌, ◌≤◌, List, length, get_or, sum_by, Option, Some, if◌then◌else◌, nat_lt}
use Rattle.mote_types.specs.BlockNames.{number_of}
use Rattle.mmem_core.specs.declared.place.Place.{Place}
use Rattle.mmem_core.specs.declared.quotas.Quotas.{Quotas}
use Rattle.mmem_core.specs.ManagedStore.{handles}
use Rattle.mmem_core.specs.Code.Places.{place_in}
use Rattle.mmem_core.specs.Code.Laid.{room_of}

-- what the blocks of p take
abbrev pub room_by : ℕ → List (Option Place) → ℕ
room_by p places = sum_by (λ handle. room_of (place_in places (number_of p handle))) handles

-- what they may take: the quota, and nothing after the last owner
abbrev pub share : ℕ → ℕ → ℕ → ℕ
share quota owners i = if nat_lt i owners then quota else 0

-- what all blocks take is parted among the processes from 3 on, and under a quota each has at most its share
pub record Shares (quotas : Quotas) (places : List (Option Place)) (taken : List ℕ) (used size : ℕ) : Type 0 where
  pub entries : length taken ≡ 17
  pub told : (p : ℕ) → 3 ≤ p → p ≤ 19 → get_or taken (p - 3) 0 ≡ room_by p places
  pub total : sum_by (λ n. n) taken ≡ used
  pub fit : (quota : ℕ) → quotas.each ≡ Some quota → quota * quotas.owners ≤ size
  pub within : (quota : ℕ) → quotas.each ≡ Some quota → (i : ℕ) → get_or taken i 0 ≤ share quota quotas.owners i

-- the same, which searches do not look into
unfoldable pub AreShared : Quotas → List (Option Place) → List ℕ → ℕ → ℕ → Type 0
AreShared quotas places taken used size = Shares quotas places taken used size
