-- The process list.
use Rattle.process_core.proofs.Common.{◌≡◌, ◌≢◌, ℕ, ◌<◌, ◌≤◌, Bool, true, false, not, ◌&&◌, List, [], ◌∷◌, ◌++◌, ◌-◌, length, drop, refl, sym, ◌∙◌, ap, arith, eqb, ◌==◌, lit<, set, if◌then◌else◌, replicate, list_any, IsDistinct, AllByRecursion, list_any-append, nat_tests, length-le_from_distinct_below, IsDistinct-cons, state_of, with_state, with_mark, without, numbers, is_marked, is_any_marked, IsKept, listed, process_at, mark_at, others, is_one_of, length-append, length-set, get_or-set_same, get_or-set_other, IsDistinct-head, IsDistinct-tail, Process, State, changed, EndsWithKernel, kernel_numbers, state_at, nat_lt, is_only_marked, from_marked, with_bit, ◌^◌}
use Rattle.std.proofs.Math.Seq.{drop-append_seam}
use Rattle.std.proofs.lemmas.List.Elements.{filter-append}
use Rattle.std.proofs.lemmas.Map.Views.{any-filter_same}
use Rattle.process_core.proofs.MarkBits.{bit_other, bit_same, bit_small, counted, no_bit, only_bit, some_marked, unmarked_beyond}
use Rattle.process_core.proofs.Sound.{none_from_is_one_of, same_number}

-- ---- what the list means

all_kept : (P : ℕ → Type 0) (p : ℕ) (ns : List ℕ) → AllByRecursion P ns → AllByRecursion P (others p ns)
all_kept P p [] a = a
all_kept P p (n ∷ ns) a = grind (arith, all_kept P p ns a.1)

-- ---- at first

kept_at_none : IsKept (replicate 20 State.Absent) 0 []
unfolding IsDistinct
kept_at_none = let few : 0 < 2 ^ 20 = lit< tt in grind (arith, no_bit, few)

module _ (s : List State) where
  module _ (m : ℕ) where
    pub numbers_listed : (ns : List ℕ) → numbers (listed s m ns) ≡ ns
    numbers_listed [] = refl
    numbers_listed (n ∷ ns) = ap (λ (l : List ℕ). n ∷ l) (numbers_listed ns)

    pub any_listed : (ns : List ℕ) → is_any_marked (listed s m ns) ≡ list_any (λ n. mark_at m n) ns
    any_listed [] = refl
    any_listed (n ∷ ns) = grind (arith, any_listed ns)

    pub few_kept : (ns : List ℕ) → IsKept s m ns → length ns ≤ 20
    few_kept ns k = length-le_from_distinct_below ns 20 k.distinct k.below

pub numbers_seen : {s : List State} {m : ℕ} {ns : List ℕ} {list : List Process} → IsKept s m ns → listed s m ns ≡ list
    → numbers list ≡ ns
numbers_seen {s} {m} {ns} k same = sym (ap numbers same) ∙ numbers_listed s m ns

module _ (p : ℕ) where
  pub changed_none : (change : Process → Process) (s : List State) (m : ℕ) (ns : List ℕ) → is_one_of p ns ≡ false →
      changed p change (listed s m ns) ≡ listed s m ns
  changed_none change s m [] h = refl
  changed_none change s m (n ∷ ns) h = grind (arith, changed_none change s m ns)

  pub others_same : (ns : List ℕ) → is_one_of p ns ≡ false → others p ns ≡ ns
  others_same [] h = refl
  others_same (n ∷ ns) h = grind (arith, others_same ns (grind (arith, h)))

  pub gone : (ns : List ℕ) → is_one_of p (others p ns) ≡ false
  gone ns = any-filter_same (eqb p) (λ n. not (n == p)) false (λ n same. grind (arith, nat_tests)) ns

  pub others_stay : (q : ℕ) (ns : List ℕ) → eqb q p ≡ false → is_one_of q (others p ns) ≡ is_one_of q ns
  others_stay q ns h = any-filter_same (eqb q) (λ n. not (n == p)) true (λ n same. grind (arith, nat_tests)) ns

  distinct_others : (ns : List ℕ) → IsDistinct eqb ns → IsDistinct eqb (others p ns)
  distinct_others [] d = d
  distinct_others (n ∷ ns) d =
      grind (arith, IsDistinct-cons, all_kept, IsDistinct-head, distinct_others ns (IsDistinct-tail eqb n ns d))

  module _ (s : List State) where
    module _ (m : ℕ) where
      pub state_listed : (ns : List ℕ) →
          state_of p (listed s m ns) ≡ (if is_one_of p ns then state_at s p else State.Absent)
      state_listed [] = refl
      state_listed (n ∷ ns) = grind (arith, same_number, state_listed ns)

      pub marked_listed : (ns : List ℕ) → is_marked p (listed s m ns) ≡ (is_one_of p ns && mark_at m p)
      marked_listed [] = refl
      marked_listed (n ∷ ns) = grind (arith, marked_listed ns)

      pub without_listed : (ns : List ℕ) → without p (listed s m ns) ≡ listed s m (others p ns)
      without_listed [] = refl
      without_listed (n ∷ ns) = grind (arith, without_listed ns)

      module _ (ns : List ℕ) where
        pub state_kept : IsKept s m ns → state_of p (listed s m ns) ≡ state_at s p
        state_kept k = grind (arith, state_listed)

        pub marked_kept : IsKept s m ns → is_marked p (listed s m ns) ≡ mark_at m p
        marked_kept k = grind (arith, marked_listed)

        -- marked processes are on the list, with numbers below 20
        pub marked_below : IsKept s m ns → 20 ≤ p → is_marked p (listed s m ns) ≡ false
        marked_below k far = grind (arith, marked_listed)

  module _ {s : List State} {m : ℕ} {ns : List ℕ} where
    pub kept_added : p < 20 → is_one_of p ns ≡ false
        → IsKept s m ns → IsKept (set s p State.Running) m (p ∷ ns)
    kept_added known none k =
        grind (
          arith,
          length-set,
          nat_tests,
          same_number,
          get_or-set_other,
          get_or-set_same,
          IsDistinct-cons eqb p ns
              (none_from_is_one_of p ns none) k.distinct,
        )

    pub kept_others : p < 20
        → IsKept s m ns → IsKept (set s p State.Absent) (with_bit p false m) (others p ns)
    kept_others known k =
        grind (
          arith,
          length-set,
          distinct_others,
          nat_tests,
          same_number,
          others_stay,
          gone,
          get_or-set_other,
          get_or-set_same,
          bit_other,
          bit_same,
          bit_small,
        )

  module _ (s later : List State) (m new : ℕ) (far : (n : ℕ) → n ≢ p → process_at s m n ≡ process_at later new n) where
    -- only p changed, by this change
    listed_changed : (change : Process → Process) (ns : List ℕ) → change (process_at s m p) ≡ process_at later new p
        → changed p change (listed s m ns) ≡ listed later new ns
    listed_changed change [] here = refl
    listed_changed change (n ∷ ns) here =
        grind (arith, same_number, here, listed_changed change ns here)

    -- a process off the list changed
    listed_elsewhere : (ns : List ℕ) → is_one_of p ns ≡ false → listed s m ns ≡ listed later new ns
    listed_elsewhere ns h =
        sym (changed_none (λ _. process_at later new p) s m ns h) ∙ listed_changed (λ _. process_at later new p) ns refl

  module _ (s : List State) (m : ℕ) (ns : List ℕ) where
    pub state_set : (x : State) → p < length s → with_state p x (listed s m ns) ≡ listed (set s p x) m ns
    state_set x h =
        listed_changed s (set s p x) m m (λ n apart. grind (arith, get_or-set_other)) (λ process. record process { state = x }) ns
        (grind (arith, get_or-set_same))

    pub mark_set : (x : Bool) → p < 20 → m < 2 ^ 20 → with_mark p x (listed s m ns) ≡ listed s (with_bit p x m) ns
    mark_set x h small =
        listed_changed s s m (with_bit p x m) (λ n apart. grind (arith, bit_other m p x n h small apart))
        (λ process. record process { marked = x }) ns (grind (arith, bit_same m p x h))

  module _ {s : List State} {m : ℕ} {ns : List ℕ} where
    pub kept_state : (x : State) → is_one_of p ns ≡ true → (x ≡ State.Absent → ⊥) → IsKept s m ns → IsKept (set s p x) m ns
    kept_state x here there k = grind (arith, length-set, get_or-set_other, same_number, get_or-set_same, nat_tests)

    pub kept_mark : (x : Bool) → is_one_of p ns ≡ true → IsKept s m ns → IsKept s (with_bit p x m) ns
    kept_mark x here k = grind (arith, bit_other, bit_small)

  module _ {s : List State} {m : ℕ} {ns : List ℕ} where
    pub room_for : p < 20 → is_one_of p ns ≡ false → IsKept s m ns → length ns < 20
    room_for known none k = omega (arith, few_kept _ _ _ (kept_added known none k))

    pub added_listed : p < 20 → is_one_of p ns ≡ false → IsKept s m ns
        → listed (set s p State.Running) m (p ∷ ns) ≡ record { number = p; state = State.Running; marked = false } ∷ listed s m ns
    added_listed known none k =
        grind (arith, get_or-set_same, listed_elsewhere s (set s p State.Running) m m (λ n apart. grind (arith, get_or-set_other)) ns none)

  pub removed_listed : (s : List State) (m : ℕ) (ns : List ℕ) → p < 20 → m < 2 ^ 20
      → listed (set s p State.Absent) (with_bit p false m) (others p ns) ≡ without p (listed s m ns)
  removed_listed s m ns known small =
      sym (without_listed s m ns
      ∙ listed_elsewhere s _ m _ (λ n apart. grind (arith, get_or-set_other, bit_other m p false n known small apart)) (others p ns)
      (gone ns))

  module _ {list : List Process} {s : List State} {m : ℕ} {ns : List ℕ} where
    -- a process is on the list if it isn't Absent
    pub on_list : listed s m ns ≡ list → IsKept s m ns
        → (state_of p list ≡ State.Absent → ⊥) → is_one_of p ns ≡ true
    on_list same k there = grind (arith, state_kept)

    pub off_list : listed s m ns ≡ list → IsKept s m ns
        → state_of p list ≡ State.Absent → is_one_of p ns ≡ false
    off_list same k absent = grind (arith, state_kept)

pub kept_at_first : IsKept
    (set (set (set (set (replicate 20 State.Absent) 0 State.Running) 1 State.Running) 2 State.Running) 3 State.Running)
    0 (3 ∷ 2 ∷ 1 ∷ 0 ∷ [])
kept_at_first =
    kept_added 3 (lit< tt) refl (kept_added 2 (lit< tt) refl (kept_added 1 (lit< tt) refl (kept_added 0 (lit< tt) refl kept_at_none)))

pub ends_at : (ns : List ℕ) (e : EndsWithKernel ns) → ns ≡ e.applications ++ drop (length ns - 4) ns
ends_at ns e =
    let at : length ns - 4 ≡ length e.applications = grind (arith, length-append) in
    grind (arith, drop-append_seam)

module _ (p : ℕ) where
  -- a process that is not on the list is an application
  beyond_kernel : (applications : List ℕ) → is_one_of p (applications ++ kernel_numbers) ≡ false → 4 ≤ p
  beyond_kernel applications h = grind (arith, list_any-append)

  pub marked_from_present : (list : List Process) → (state_of p list ≡ State.Absent → ⊥) → is_marked p (with_mark p true list) ≡ true
  marked_from_present [] h = absurd (h refl)
  marked_from_present (x ∷ xs) h = grind (arith, marked_from_present xs)

  pub marked_from_running : (old new : List Process) → state_of p old ≡ State.Running → new ≡ with_mark p true old
      → is_marked p new ≡ true
  marked_from_running old new runs e = grind (arith, marked_from_present)

  module _ (ns : List ℕ) where
    pub ends_added : is_one_of p ns ≡ false → EndsWithKernel ns → EndsWithKernel (p ∷ ns)
    ends_added none e =
        let least = beyond_kernel e.applications (rw e.split at none) in
        record { applications = p ∷ e.applications; split = grind arith; above = grind (arith, nat_tests, same_number) }

    pub ends_others : 4 ≤ p → EndsWithKernel ns → EndsWithKernel (others p ns)
    ends_others least e = grind (arith, filter-append, same_number, gone, others_stay)

module _ (m : ℕ) where
  marked_among : (ns : List ℕ) (p : ℕ) → is_one_of p ns ≡ true → mark_at m p ≡ true → list_any (λ n. mark_at m n) ns ≡ true
  marked_among [] p h e = absurd (cc)
  marked_among (n ∷ ns) p h e = grind (arith, marked_among ns p)

  counted_among : (ns : List ℕ) → list_any (λ n. mark_at m n) ns ≡ true → 0 < m
  counted_among [] h = absurd (cc)
  counted_among (n ∷ ns) h = grind (arith, counted, counted_among ns)

module _ (s : List State) where
  module _ (m : ℕ) where
    module _ (ns : List ℕ) where
      marked_on_list : (p : ℕ) → IsKept s m ns → mark_at m p ≡ true → is_one_of p ns ≡ true
      marked_on_list p k e = grind arith

      -- some process is marked if the marks aren't 0
      pub any_counted : IsKept s m ns → is_any_marked (listed s m ns) ≡ nat_lt 0 m
      any_counted k =
          grind (arith, any_listed, counted_among, some_marked m, marked_among, marked_on_list)

      -- if no application is marked, a poll round passes over them all
      pub no_application_marked : (walk : List ℕ) → IsKept s m ns
          → ((p : ℕ) → is_one_of p walk ≡ true → 4 ≤ p)
          → nat_lt 15 m ≡ false → from_marked (listed s m ns) walk ≡ []
      no_application_marked [] k are none = refl
      no_application_marked (p ∷ walk) k are none =
          let least = are p (grind (arith, nat_tests)) in
          rw (marked_kept p s m ns k ∙ unmarked_beyond m p least none) (no_application_marked walk k
          (λ q h. are q (grind (arith, nat_tests, h))) none)

pub only_counted : (s : List State) (m : ℕ) (ns : List ℕ) (p : ℕ) → p < 20 → IsKept s m ns →
    is_only_marked p (listed s m ns) ≡ (m == 2 ^ p)
only_counted s m ns p known k = split (is_one_of p ns) refl
  where
    split : (b : Bool) → is_one_of p ns ≡ b → is_only_marked p (listed s m ns) ≡ (m == 2 ^ p)
    split true e =
        rw (
          marked_kept p s m ns k,
          mark_set p s m ns false known k.mark_places,
          any_counted s (with_bit p false m) ns (kept_mark p false e k),
        ) (only_bit m p known k.mark_places)
    split false e = rw (marked_kept p s m ns k, k.unmarked p e) (rw (k.unmarked p e) at (only_bit m p known k.mark_places))
