-- The timer list along the links.
use Rattle.timer_core.proofs.Words.{◌≡◌, ℕ, zero, suc, ◌<◌, ◌≤◌, true, false, List, [], ◌∷◌, length, refl, ◌∙◌, ap, arith, eqb, set, lit≤, Option, Some, None, map, replicate, ◌^◌, list_any, IsDistinct, AllByRecursion, length-map, get_or-set_same, get_or-set_other, get_or-replicate, All-replicate, Timer, LinkedCell, slot_of, IsNamed, is_timer, next_of, linked, listed_from, led_to, Names, AreApart, IsList, IsTable, zero_linked}
use Rattle.std.proofs.lemmas.Map.Steps.{length-le_from_distinct_below}
use Rattle.timer_core.proofs.NameLemmas.{slot_below}

-- what the links name is what is read along them
pub linked_from_names : (n : ℕ) (cells : List LinkedCell) (link : Option Timer) (list : List Timer) → Names cells link list
    → length list ≤ n →
    linked n cells link ≡ list
linked_from_names zero cells link [] h few = refl
linked_from_names zero cells link (t ∷ later) h few = absurd (omega arith)
linked_from_names (suc n) cells link [] h few = rw h refl
linked_from_names (suc n) cells link (t ∷ later) h few = grind (arith, linked_from_names n cells (next_of cells t) later h.1.1)

-- distinct timers in range are at most as many as the slots of the table
abbrev pub AllNamed : List Timer → Type 0
AllNamed [] = Unit {0}
AllNamed (t ∷ later) = IsNamed t × AllNamed later

slots_apart : (t : Timer) (list : List Timer) → IsNamed t → AllNamed list → list_any (is_timer t) list ≡ false →
    AllByRecursion (λ slot. eqb (slot_of t) slot ≡ false) (map slot_of list)
slots_apart t [] h k none = tt
slots_apart t (u ∷ later) h k none = grind (arith, slots_apart t later h k.1)

slots_distinct : (list : List Timer) → AllNamed list → AreApart list → IsDistinct eqb (map slot_of list)
unfolding IsDistinct
slots_distinct [] h apart = tt
slots_distinct (t ∷ later) h apart = (slots_apart t later h.0 h.1 apart.0, slots_distinct later h.1 apart.1)

slots_below : (list : List Timer) → AllNamed list → (q : ℕ) → list_any (eqb q) (map slot_of list) ≡ true → q < 192
slots_below [] h q e = absurd (cc)
slots_below (t ∷ later) h q e = grind (arith, slots_below later h.1 q)

few_timers : (list : List Timer) → AllNamed list → AreApart list → length list ≤ 192
few_timers list h apart =
    omega (
      arith,
      length-le_from_distinct_below (map slot_of list) 192 (slots_distinct list h apart) (slots_below list h),
      length-map list slot_of,
    )

-- the list after a change of the links
pub record Relinked (cells : List LinkedCell) (link : Option Timer) (list : List Timer) : Type 0 where
  pub sound : IsList cells link
  pub listed : listed_from cells link ≡ list

pub table_at_boot : IsTable (record { cells = replicate 192 zero_linked; first = None })
unfolding listed_from
table_at_boot =
    record {
      slots = refl;
      listed = grind arith;
      flags = λ t h. ap (λ (c : LinkedCell). c.is_armed) (get_or-replicate 192 (slot_of t) zero_linked zero_linked (slot_below t h));
      starts = All-replicate (λ linked_cell. linked_cell.start ≤ 2 ^ 63) 192 zero_linked (lit≤ tt);
    }

module _ (cells : List LinkedCell) where
  pub listed_from_none : listed_from cells None ≡ []
  unfolding listed_from
  listed_from_none = refl

  -- one step along the links
  pub record Passes (link : Option Timer) (timer : Timer) : Type 0 where
    pub named : IsNamed timer
    pub later : IsList cells (next_of cells timer)
    pub apart : list_any (is_timer timer) (listed_from cells (next_of cells timer)) ≡ false
    pub listed : listed_from cells link ≡ timer ∷ listed_from cells (next_of cells timer)

  pub all_named : (link : Option Timer) (list : List Timer) → Names cells link list → AllNamed list
  all_named link [] h = tt
  all_named link (t ∷ later) h = (h.1.0, all_named (next_of cells t) later h.1.1)

  module _ (t : Timer) where
    pub next_of_other : (u : Timer) (x : LinkedCell) → IsNamed t → IsNamed u → is_timer t u ≡ false →
        next_of (set cells (slot_of t) x) u ≡ next_of cells u
    next_of_other u x h k e = grind (arith, get_or-set_other)

    module _ (x : LinkedCell) where
      pub next_of_same : slot_of t < length cells
          → next_of (set cells (slot_of t) x) t ≡ led_to x.next
      next_of_same within = grind (arith, get_or-set_same)

      -- a timer off this list may get any link
      pub names_other : (link : Option Timer) (list : List Timer) → IsNamed t →
          list_any (is_timer t) list ≡ false → Names cells link list → Names (set cells (slot_of t) x) link list
      names_other link [] h none names = names
      names_other link (u ∷ later) h none names = grind (arith, next_of_other, names_other (next_of cells u) later h)

    names_kept : (x : LinkedCell) (link : Option Timer) (list : List Timer) → slot_of t < length cells →
        led_to x.next ≡ next_of cells t → Names cells link list → Names (set cells (slot_of t) x) link list
    names_kept x link [] within e names = names
    names_kept x link (u ∷ later) within e names = grind (
      arith,
      next_of_same,
      get_or-set_other,
      names_kept x
          (next_of cells u) later within e names.1.1,
    )

  module _ (link : Option Timer) where
    listed_from_names : (list : List Timer) → Names cells link list → AreApart list → listed_from cells link ≡ list
    unfolding listed_from
    listed_from_names list h apart = linked_from_names 192 cells link list h (few_timers list (all_named link list h) apart)

    pub relinked : (list : List Timer) → Names cells link list → AreApart list → Relinked cells link list
    relinked list h apart =
        grind (arith, listed_from_names)

  passes_first : (link : Option Timer) (timer : Timer) (list : List Timer) → link ≡ Some timer → Names cells link list → AreApart list
      → listed_from cells link ≡ list → Passes link timer
  passes_first link timer [] e h apart listed = absurd (cc)
  passes_first link timer (t ∷ later) e h apart listed =
      let same : timer ≡ t = cc in let r = relinked (next_of cells t) later h.1.1 apart.1 in
      rw same record {
        named = h.1.0;
        later = r.sound;
        apart = rw r.listed apart.0;
        listed = rw r.listed listed;
      }

  module _ (link : Option Timer) (timer : Timer) where
    pub passes : link ≡ Some timer → IsList cells link → Passes link timer
    passes e l = passes_first link timer (listed_from cells link) e l.ends l.apart refl

    pub listed_shorter : Passes link timer →
        length (listed_from cells (next_of cells timer)) < length (listed_from cells link)
    listed_shorter p = rw p.listed (omega arith)

module _ (cells : List LinkedCell) (link : Option Timer) (t : Timer) (x : LinkedCell) where
  pub relinked_kept : slot_of t < length cells →
      led_to x.next ≡ next_of cells t → IsList cells link → Relinked (set cells (slot_of t) x) link (listed_from cells link)
  relinked_kept within e l = relinked _ link _ (names_kept cells t x link _ within e l.ends) l.apart

  pub relinked_first : IsNamed t → slot_of t < length cells →
      led_to x.next ≡ link → list_any (is_timer t) (listed_from cells link) ≡ false → IsList cells link →
      Relinked (set cells (slot_of t) x) (Some t) (t ∷ listed_from cells link)
  relinked_first h within e none l =
      relinked _ (Some t) _ (refl, (h, rw (next_of_same cells t x within ∙ e) (names_other cells t x link _ h none l.ends))) (none, l.apart)
