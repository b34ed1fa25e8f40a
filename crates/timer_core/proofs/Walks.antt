-- A walk along the timer list: timers passed and timers ahead.
use Rattle.timer_core.proofs.Words.{◌≡◌, ℕ, List, [], ◌∷◌, ◌++◌, refl, arith, append_assoc, get_or, Option, Some, None, ap, LinkedCell, EndsWith, IsList, IsNamed, Follows, Timer, led_to, listed_from, next_of, timer_at, zero_linked}
use Rattle.timer_core.proofs.AtSlots.{next_at}
use Rattle.timer_core.proofs.LinkLemmas.{Passes, passes, relinked}
use Rattle.timer_core.proofs.Unlinking.{apart_after, names_after}

-- these were passed, the last one in slot `last`; the rest follows `link`
pub record Walked (cells : List LinkedCell) (first last link : Option ℕ) (earlier : List Timer) : Type 0 where
  pub ends : EndsWith last earlier
  pub listed : listed_from cells (led_to first) ≡ earlier ++ listed_from cells (led_to link)
  pub list : IsList cells (led_to link)

module _ {cells : List LinkedCell} {link : Option ℕ} {slot : ℕ} (is : link ≡ Some slot) where
  pub passes_at : IsList cells (led_to link) → Passes cells (led_to link) (timer_at slot)
  passes_at l = passes cells (led_to link) (timer_at slot) (ap led_to is) l

  module _ {first last : Option ℕ} {earlier : List Timer} (w : Walked cells first last link earlier) where
    pub walked_more : Walked cells first (Some slot) (get_or cells slot zero_linked).next (earlier ++ timer_at slot ∷ [])
    walked_more = grind (arith, passes_at, append_assoc)

    -- the timer that the walk has reached
    pub follows_walked : (timer : Timer) → timer_at slot ≡ timer → Follows last timer (listed_from cells (led_to first))
    follows_walked timer same = grind (arith, passes_at)

module _ (cells : List LinkedCell) (first : Option ℕ) where
  -- the link after that slot
  abbrev pub link_after : Option ℕ → Option ℕ
  link_after None = first
  link_after (Some slot) = (get_or cells slot zero_linked).next

  pub named_last : (slot : ℕ) (earlier later : List Timer) → IsList cells (led_to first)
      → listed_from cells (led_to first) ≡ earlier ++ later → EndsWith (Some slot) earlier → IsNamed (timer_at slot)
  named_last slot earlier later l listed ends = grind (arith, append_assoc, names_after)

  pub walked_after : (last : Option ℕ) (earlier later : List Timer) → IsList cells (led_to first)
      → listed_from cells (led_to first) ≡ earlier ++ later → EndsWith last earlier →
      Walked cells first last (link_after last) earlier
  walked_after None earlier later l listed ends = record { ends = ends; listed = rw ends refl; list = l }
  walked_after (Some slot) earlier later l listed ends =
      let whole : listed_from cells (led_to first) ≡ ends.0 ++ timer_at slot ∷ later = grind (arith, append_assoc) in
      let names = names_after cells (led_to first) (timer_at slot) ends.0 later (rw whole at l.ends) in
      let r = relinked cells (next_of cells (timer_at slot)) later names.1
      (apart_after (timer_at slot) ends.0 later (rw whole at l.apart)).1 in
      record { ends = ends; listed = grind arith; list = rw (next_at cells slot names.0) at r.sound }
