-- What the code's process list means, and its invariant.
use Rattle.std.specs.Prelude.{◌≡◌, ℕ, ◌*◌, ◌%◌, ◌^◌, ◌<◌, ◌≤◌, Bool, true, false, not, eqb, ◌==◌, List, [], ◌∷◌, ◌++◌, map, filter, length, slice_index_or, bit_and, bit_or}
use Rattle.std.specs.Int.{bit_at, bit_not, w32}
use Rattle.std.specs.List.{IsDistinct}
use Rattle.process_core.specs.declared.state.State.{State}
use Rattle.process_core.specs.declared.process.Process.{Process}
use Rattle.process_core.specs.Code.Nesting.{is_one_of}

-- what the process of that number does
abbrev pub state_at : List State → ℕ → State
state_at states p = slice_index_or states p State.Absent

-- the marks are a number: a process is marked where the bit of its number is set
unfoldable pub mark_at : ℕ → ℕ → Bool
mark_at marks p = bit_at marks p == 1

-- the marks where that of p is set or cleared
unfoldable pub with_bit : ℕ → Bool → ℕ → ℕ
with_bit p true marks = bit_or marks (1 * 2 ^ p % 2 ^ 32)
with_bit p false marks = bit_and marks (bit_not w32 (1 * 2 ^ p % 2 ^ 32))

abbrev pub process_at : List State → ℕ → ℕ → Process
process_at states marks p = record { number = p; state = state_at states p; marked = mark_at marks p }

-- the processes of these numbers
abbrev pub listed : List State → ℕ → List ℕ → List Process
listed states marks on_list = map (process_at states marks) on_list

-- the kernel's processes, which are last on each list
abbrev pub kernel_numbers : List ℕ
kernel_numbers = 3 ∷ 2 ∷ 1 ∷ 0 ∷ []

-- the numbers except p
abbrev pub others : ℕ → List ℕ → List ℕ
others p on_list = filter (λ n. not (n == p)) on_list

pub record IsKept (states : List State) (marks : ℕ) (on_list : List ℕ) : Type 0 where
  pub state_places : length states ≡ 20
  pub mark_places : marks < 2 ^ 20
  -- no process is on the list twice, and each has a number below 20
  pub distinct : IsDistinct eqb on_list
  pub below : (p : ℕ) → is_one_of p on_list ≡ true → p < 20
  -- exactly those that are not on the list are Absent, and no such one is marked
  pub present : (p : ℕ) → is_one_of p on_list ≡ true → state_at states p ≡ State.Absent → ⊥
  pub absent : (p : ℕ) → is_one_of p on_list ≡ false → state_at states p ≡ State.Absent
  pub unmarked : (p : ℕ) → is_one_of p on_list ≡ false → mark_at marks p ≡ false

-- applications, and after them the kernel's processes
pub record EndsWithKernel (on_list : List ℕ) : Type 0 where
  pub applications : List ℕ
  pub split : on_list ≡ applications ++ kernel_numbers
  pub above : (p : ℕ) → is_one_of p applications ≡ true → 4 ≤ p

pub record IsListed (states : List State) (marks : ℕ) (on_list : List ℕ) : Type 0 where
  pub kept : IsKept states marks on_list
  pub ends : EndsWithKernel on_list
