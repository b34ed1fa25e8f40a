-- Re-exports the names and lemmas that the proofs here cite.
pub use Rattle.timer_core.proofs.Words.{is_present_arming, refl, rules, List, Follows, None, Some, Timer, Timers, ap, arith, armed_with, cell_of, deadline, false, first_due, is_armed, is_callback_timer_of, is_due, is_event_timer_of, is_timer, le-leb, led_to, callback_slot, cases_eq, get_or-set_other, timer_at, length, list_any, list_any-append, lt-leb, present_arming, stop_timer, subst, sym, timers_of, true, ℕ, ◌+◌, ◌<◌, ◌∙◌, ◌≡◌, ◌≤◌}
unfoldable pub use Rattle.timer_core.proofs.Words.{listed_from}
pub use Rattle.timer_core.proofs.ArmingLemmas.{numbered_at_boot, renumbered_below}
pub use Rattle.timer_core.proofs.Cells.{cell_given, cell_read}
pub use Rattle.timer_core.proofs.Changes.{cell_changed, head_added, named_after, nothing_removed, stands_unlinked, timers_at_boot}
pub use Rattle.timer_core.proofs.Forgetting.{all_callbacks, all_events, below, one_callback, one_event, without, without_more, without_none, without_same}
pub use Rattle.timer_core.proofs.LinkLemmas.{AllNamed, all_named, listed_from_none, listed_shorter, table_at_boot}
pub use Rattle.timer_core.proofs.NameLemmas.{at_below, other_at, slot_below, timer_at_slot}
pub use Rattle.timer_core.proofs.AtSlots.{deadline_at, next_at}
pub use Rattle.timer_core.proofs.NoneDue.{none_due_after_arming, none_due_in_fewer}
pub use Rattle.timer_core.proofs.Walks.{Walked, follows_walked, link_after, named_last, passes_at, walked_after, walked_more}
pub use Rattle.timer_core.proofs.Looks.{follows_passed, due_here, none_here, none_of_more, nothing_passed, passed_without}
