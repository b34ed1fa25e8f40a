-- A timer is removed from the list: the one before it gets its link.
use Rattle.timer_core.proofs.Words.{◌≡◌, ◌<◌, false, not, List, [], ◌∷◌, ◌++◌, length, refl, arith, set, append_assoc, list_any-append, Option, filter, list_any, Timer, LinkedCell, slot_of, IsNamed, is_timer, next_of, led_to, listed_from, Names, AreApart, IsList}
use Rattle.timer_core.proofs.LinkLemmas.{Passes, Relinked, relinked, names_other, next_of_other, next_of_same}

abbrev pub others : Timer → List Timer → List Timer
others timer list = filter (λ other. not (is_timer timer other)) list

pub others_none : (t : Timer) (list : List Timer) → list_any (is_timer t) list ≡ false → others t list ≡ list
others_none t [] none = refl
others_none t (u ∷ later) none = grind (arith, others_none t later)

-- without the first timer
pub others_itself : (cells : List LinkedCell) (link : Option Timer) (timer : Timer) → Passes cells link timer →
    listed_from cells (next_of cells timer) ≡ others timer (listed_from cells link)
others_itself cells link timer p = grind (arith, others_none)

-- the timer is on the list once
pub others_middle : (t : Timer) (earlier later : List Timer) → list_any (is_timer t) (earlier ++ later) ≡ false →
    others t (earlier ++ t ∷ later) ≡ earlier ++ later
others_middle t [] later once = grind (arith, others_none)
others_middle t (u ∷ earlier) later once = grind (arith, others_middle t earlier later)

none_after : (t before : Timer) (earlier rest : List Timer) → list_any (is_timer t) (earlier ++ before ∷ rest) ≡ false →
    (is_timer t before ≡ false) × (list_any (is_timer t) (earlier ++ rest) ≡ false)
none_after t before earlier rest none = grind (arith, list_any-append)

-- a timer in the middle may be put first
pub one_apart : (t : Timer) (earlier later : List Timer) → AreApart (earlier ++ t ∷ later) → AreApart (t ∷ (earlier ++ later))
one_apart t [] later apart = apart
one_apart t (u ∷ earlier) later apart = grind (arith, none_after, one_apart t earlier later apart.1)

pub names_after : (cells : List LinkedCell) (link : Option Timer) (t : Timer) (earlier later : List Timer)
    → Names cells link (earlier ++ t ∷ later) → IsNamed t × Names cells (next_of cells t) later
names_after cells link t [] later names = names.1
names_after cells link t (u ∷ earlier) later names = names_after cells (next_of cells u) t earlier later names.1.1

pub apart_after : (before : Timer) (earlier rest : List Timer) → AreApart (earlier ++ before ∷ rest) → AreApart (before ∷ rest)
apart_after before [] rest apart = apart
apart_after before (u ∷ earlier) rest apart = apart_after before earlier rest apart.1

names_closed : (cells : List LinkedCell) (link : Option Timer) (timer before : Timer) (x : LinkedCell) (earlier rest : List Timer)
    → IsNamed before →
    slot_of before < length cells → led_to x.next ≡ next_of cells timer → AreApart (earlier ++ before ∷ (timer ∷ rest)) →
    Names cells link (earlier ++ before ∷ (timer ∷ rest)) → Names (set cells (slot_of before) x) link (earlier ++ before ∷ rest)
names_closed cells link timer before x [] rest h within e apart names = grind (arith, next_of_same, names_other)
names_closed cells link timer before x (u ∷ earlier) rest h within e apart names = grind (
  arith,
  none_after,
  next_of_other,
  names_closed cells
      (next_of cells u) timer before x earlier rest h within e apart.1 names.1.1,
)

pub relinked_without : (cells : List LinkedCell) (link : Option Timer) (timer before : Timer) (x : LinkedCell) (earlier later : List Timer)
    → IsNamed before → slot_of before < length cells → led_to x.next ≡ next_of cells timer
    → listed_from cells link ≡ (earlier ++ before ∷ []) ++ timer ∷ later → IsList cells link →
    Relinked (set cells (slot_of before) x) link (others timer (listed_from cells link))
relinked_without cells link timer before x earlier later h within e listed l =
    let apart = rw listed at l.apart in let one = one_apart timer (earlier ++ before ∷ []) later apart in
    let whole = append_assoc earlier (before ∷ []) (timer ∷ later) in let rest = append_assoc earlier (before ∷ []) later in
    let kept : others timer (listed_from cells link) ≡ earlier ++ before ∷ later =
    grind (arith, others_middle) in
    rw kept (relinked _ link (earlier ++ before ∷ later)
    (names_closed cells link timer before x earlier later h within e (rw whole at apart) (rw (listed, whole) at l.ends))
    (rw rest at one.1))
