-- How changes of the table affect the cells and the timer list.
use Rattle.timer_core.proofs.Words.{◌≡◌, ℕ, ◌<◌, ◌≤◌, Bool, true, false, List, [], ◌∷◌, ◌++◌, length, refl, sym, subst, ◌∙◌, ap, arith, set, get_or, Option, Some, None, is_armed, replicate, All, ◌^◌, list_any, length-set, All-set, Timer, Cell, LinkedCell, slot_of, timer_at, led_to, link_of, IsNamed, all_timers, is_timer, Timers, no_timers, armed_with, stop_timer, next_of, flag_of, listed_from, named_cells, AreFlagged, Names, IsTable, timers_of, zero_linked, Follows}
use Rattle.timer_core.specs.declared.table.TimerTable.TheInside.{Inside}
use Rattle.timer_core.proofs.NameLemmas.{slot_at}
use Rattle.timer_core.proofs.Cells.{cells_set, cells_kept, cells_at_boot}
use Rattle.timer_core.proofs.Flags.{flags_kept, flags_added, flags_removed}
use Rattle.timer_core.proofs.LinkLemmas.{Relinked, passes, next_of_same, listed_from_none, relinked_kept, relinked_first}
use Rattle.timer_core.proofs.Walks.{named_last}
use Rattle.timer_core.proofs.Unlinking.{others, others_none, others_itself, relinked_without}

-- the table is sound, and stands for these timers
pub record StandsFor (table : Inside) (timers : Timers) : Type 0 where
  pub sound : IsTable table
  pub value : timers_of table ≡ timers

abbrev HasStarts : List LinkedCell → Type 0
HasStarts cells = All (λ linked_cell. linked_cell.start ≤ 2 ^ 63) cells

stands_for : (table : Inside) (timers : Timers) → length table.cells ≡ 192 → HasStarts table.cells → AreFlagged table.cells timers.armed
    → named_cells all_timers table.cells ≡ timers.cells → Relinked table.cells (led_to table.first) timers.armed → StandsFor table timers
stands_for table timers slots starts flags cells r = grind arith

pub timers_at_boot : timers_of (record { cells = replicate 192 zero_linked; first = None }) ≡ no_timers
timers_at_boot = grind (arith, cells_at_boot, listed_from_none)

-- an entry with this cell
abbrev pub with_links : Cell → Bool → Option ℕ → LinkedCell
with_links cell is_armed next = record { start = cell.start; interval = cell.interval; is_armed = is_armed; next = next }

module _ (cells : List LinkedCell) where
  starts_set : (k : ℕ) (x : LinkedCell) → x.start ≤ 2 ^ 63 → HasStarts cells → HasStarts (set cells k x)
  starts_set k x h starts = All-set (λ linked_cell. linked_cell.start ≤ 2 ^ 63) cells k x h starts

  -- the slot's cell, marked as off the list
  abbrev pub unflagged : ℕ → LinkedCell
  unflagged k = record (get_or cells k zero_linked) { is_armed = false }

  abbrev pub without_flag : ℕ → List LinkedCell
  without_flag k = set cells k (unflagged k)

  abbrev pub link_at : ℕ → Option ℕ
  link_at k = (get_or cells k zero_linked).next

  start_at : (t : Timer) → slot_of t < length cells → HasStarts cells
      → (get_or cells (slot_of t) zero_linked).start ≤ 2 ^ 63
  start_at t within starts = grind arith

-- the table after its head, in slot k, was removed from the list
abbrev pub without_head : Inside → ℕ → Inside
without_head table k = record { cells = without_flag table.cells k; first = link_at table.cells k }

-- after the timer of slot k, which follows slot `before`, was removed
abbrev pub closed_over : Inside → ℕ → ℕ → Inside
closed_over table k before =
    record {
      cells = set (without_flag table.cells k) before
          (record (get_or (without_flag table.cells k) before zero_linked) { next = link_at table.cells k });
      first = table.first;
    }

pub nothing_removed : (timer : Timer) (timers : Timers) → is_armed timer timers ≡ false → timers ≡ stop_timer timer timers
nothing_removed timer timers none = grind (arith, others_none)

module _ (table : Inside) where
  module _ (t : Timer) where
    head_removed : IsTable table → IsNamed t → Follows None t (listed_from table.cells (led_to table.first)) →
        StandsFor (without_head table (slot_of t)) (stop_timer t (timers_of table))
    head_removed h named head =
        let within : slot_of t < length table.cells = grind arith in
        let x = unflagged table.cells (slot_of t) in
        let names = subst (Names table.cells (led_to table.first)) (rw head.ends at head.listed) h.listed.ends in
        let step = passes table.cells (led_to table.first) t names.0 h.listed in
        let r = relinked_kept table.cells (next_of table.cells t) t x within refl step.later in
        stands_for _ _ (length-set table.cells (slot_of t) x ∙ h.slots)
        (starts_set table.cells (slot_of t) x (start_at table.cells t within h.starts) h.starts)
        (flags_removed table.cells t x _ named within h.flags refl) (cells_kept table.cells (slot_of t) x refl)
        (record { sound = r.sound; listed = r.listed ∙ others_itself table.cells (led_to table.first) t step })

    link_closed : (before : Timer) (earlier later : List Timer) → IsTable table → IsNamed t → IsNamed before
        → listed_from table.cells (led_to table.first) ≡ (earlier ++ before ∷ []) ++ t ∷ later →
        StandsFor (closed_over table (slot_of t) (slot_of before)) (stop_timer t (timers_of table))
    link_closed before earlier later h named is_named listed =
        let within : slot_of t < length table.cells = grind arith in
        let x = unflagged table.cells (slot_of t) in let cells = without_flag table.cells (slot_of t) in
        let slots : length cells ≡ 192 = grind (arith, length-set) in
        let starts : HasStarts cells = grind (arith, starts_set, start_at) in
        let kept = relinked_kept table.cells (led_to table.first) t x within refl h.listed in
        let inside : slot_of before < length cells = grind arith in
        let y : LinkedCell = record (get_or cells (slot_of before) zero_linked) { next = link_of table.cells t } in
        let r = relinked_without cells (led_to table.first) t before y earlier later is_named inside
        (sym (next_of_same table.cells t x within)) (kept.listed ∙ listed) kept.sound in
        stands_for _ _ (length-set cells (slot_of before) y ∙ slots)
        (starts_set cells (slot_of before) y (start_at cells before inside starts) starts)
        (flags_kept cells before y _ is_named inside (flags_removed table.cells t x _ named within h.flags refl) refl)
        (cells_kept cells (slot_of before) y refl ∙ cells_kept table.cells (slot_of t) x refl)
        (record { sound = r.sound; listed = r.listed ∙ ap (others t) kept.listed })

    module _ (cell : Cell) where
      -- an armed timer gets another cell
      pub cell_changed : IsTable table → IsNamed t → cell.start ≤ 2 ^ 63 →
          list_any (is_timer t) (listed_from table.cells (led_to table.first)) ≡ true →
          StandsFor
          (record {
            cells = set table.cells (slot_of t) (with_links cell (flag_of table.cells t) (link_of table.cells t));
            first = table.first;
          })
          (armed_with t cell (timers_of table))
      cell_changed h named start e =
          let within : slot_of t < length table.cells = grind arith in
          let x : LinkedCell = with_links cell (flag_of table.cells t) (link_of table.cells t) in
          rw e (stands_for _ _ (length-set table.cells (slot_of t) x ∙ h.slots) (starts_set table.cells (slot_of t) x start h.starts)
          (flags_kept table.cells t x _ named within h.flags refl) (cells_set table.cells t x named)
          (relinked_kept table.cells (led_to table.first) t x within refl h.listed))

      -- a disarmed timer becomes the head
      pub head_added : IsTable table → IsNamed t → cell.start ≤ 2 ^ 63 →
          list_any (is_timer t) (listed_from table.cells (led_to table.first)) ≡ false →
          StandsFor (record {
            cells = set table.cells (slot_of t) (with_links cell true table.first);
            first =
                Some (slot_of t);
          })
          (armed_with t cell (timers_of table))
      head_added h named start e =
          let within : slot_of t < length table.cells = grind arith in
          let x : LinkedCell = with_links cell true table.first in
          rw e (stands_for _ _ (length-set table.cells (slot_of t) x ∙ h.slots) (starts_set table.cells (slot_of t) x start h.starts)
          (flags_added table.cells t x _ named within h.flags refl) (cells_set table.cells t x named)
          (subst (λ link. Relinked (set table.cells (slot_of t) x) link (t ∷ listed_from table.cells (led_to table.first)))
          (sym (grind arith))
          (relinked_first table.cells (led_to table.first) t x named within refl e h.listed)))

  module _ (slot : ℕ) where
    abbrev IsAfter : Option ℕ → Type 0
    IsAfter before = Follows before (timer_at slot) (listed_from table.cells (led_to table.first))

    pub head_removed_at : IsTable table → IsNamed (timer_at slot) → IsAfter None →
        StandsFor (without_head table slot) (stop_timer (timer_at slot) (timers_of table))
    head_removed_at h named after =
        grind (arith, slot_at, head_removed)

    module _ (before : ℕ) where
      pub named_after : IsTable table → IsAfter (Some before) → IsNamed (timer_at before)
      named_after h after = grind (arith, named_last)

      pub link_closed_at : IsTable table → IsNamed (timer_at slot) → IsAfter (Some before) →
          StandsFor (closed_over table slot before) (stop_timer (timer_at slot) (timers_of table))
      link_closed_at h named after = grind (arith, named_after, link_closed)

    abbrev pub unlinked : Option ℕ → Inside
    unlinked None = without_head table slot
    unlinked (Some before) = closed_over table slot before

    pub stands_unlinked : (v : Timers) → timers_of table ≡ v → IsTable table → IsNamed (timer_at slot) → (before : Option ℕ)
        → Follows before (timer_at slot) v.armed → StandsFor (unlinked before) (stop_timer (timer_at slot) v)
    stands_unlinked v is h named None =
        grind (arith, head_removed_at)
    stands_unlinked v is h named (Some before) =
        subst (λ v. Follows (Some before) (timer_at slot) v.armed →
        StandsFor (unlinked (Some before)) (stop_timer (timer_at slot) v)) is
        (link_closed_at before h named)
