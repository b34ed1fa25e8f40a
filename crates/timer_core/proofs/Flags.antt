-- Each cell says whether its timer is on the list.
use Rattle.timer_core.proofs.Words.{rules, arith, ◌≡◌, ◌<◌, true, false, not, List, ◌∷◌, length, refl, set, list_any, get_or-set_same, get_or-set_other, Timer, LinkedCell, slot_of, IsNamed, is_timer, flag_of, AreFlagged}
use Rattle.std.proofs.lemmas.Map.Views.{any-filter_same}
use Rattle.timer_core.proofs.NameLemmas.{same_timer, is_timer_itself, is_timer_flips}
use Rattle.timer_core.proofs.Unlinking.{others}

module _ (t : Timer) where
  none_left : (list : List Timer) → list_any (is_timer t) (others t list) ≡ false
  none_left list = any-filter_same (is_timer t) (λ u. not (is_timer t u)) false (λ u same. rw same refl) list

  others_stay : (u : Timer) (list : List Timer) → is_timer t u ≡ false → list_any (is_timer u) (others t list) ≡ list_any (is_timer u) list
  others_stay u list apart =
      any-filter_same (is_timer u) (λ v. not (is_timer t v)) true (λ v same. rw (← same_timer u v same, apart) refl) list

module _ (cells : List LinkedCell) where
  module _ (t : Timer) where
    module _ (x : LinkedCell) where
      module _ (list : List Timer) where
        -- the timer joins or leaves the list, and its cell says so
        pub flags_set : (new : List Timer) → IsNamed t → slot_of t < length cells →
            AreFlagged cells list → x.is_armed ≡ list_any (is_timer t) new →
            ((u : Timer) → is_timer t u ≡ false → list_any (is_timer u) new ≡ list_any (is_timer u) list)
            → AreFlagged (set cells (slot_of t) x) new
        flags_set new h within flags own others = grind (arith, get_or-set_same, get_or-set_other)

        pub flags_kept : IsNamed t → slot_of t < length cells →
            AreFlagged cells list → x.is_armed ≡ flag_of cells t → AreFlagged (set cells (slot_of t) x) list
        flags_kept h within flags same = grind (arith, flags_set)

        pub flags_added : IsNamed t → slot_of t < length cells →
            AreFlagged cells list → x.is_armed ≡ true → AreFlagged (set cells (slot_of t) x) (t ∷ list)
        flags_added h within flags on = search (rules, flags_set, is_timer_itself, is_timer_flips)

        pub flags_removed : IsNamed t → slot_of t < length cells →
            AreFlagged cells list → x.is_armed ≡ false → AreFlagged (set cells (slot_of t) x) (others t list)
        flags_removed h within flags off = search (rules, flags_set, others, none_left, others_stay)
