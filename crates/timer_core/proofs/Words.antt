-- The names that the proofs of this crate use.
pub use Rattle.std.proofs.Common.{Bool, List, [], ap, append_assoc, arith, eqb, false, get_or, length, lit<, lit≤, nat_lt, not, refl, rules, set, subst, suc, sym, true, zero, ℕ, ◌&&◌, ◌||◌, ◌++◌, ◌+◌, ◌-◌, ◌<◌, ◌∙◌, ◌∷◌, ◌≡◌, ◌≤◌, ◌⊎◌}
pub use Rattle.std.proofs.lemmas.Bool.{and_parts, cases_eq, eqb-true, le-leb, lt-leb, ne_eqb, or_cases, or_parts}
pub use Rattle.std.proofs.lemmas.List.{get_or-replicate, get_or-set_other, get_or-set_same, length-map, length-set}
pub use Rattle.std.proofs.lemmas.List.Elements.{All-get_or, All-replicate, All-set}
pub use Rattle.std.proofs.lemmas.List.Folds.{list_any-append}
pub use Rattle.std.specs.List.{AllByRecursion, list_any}
unfoldable pub use Rattle.std.specs.List.{IsDistinct}
pub use Rattle.std.specs.Prelude.{All, None, Option, Some, filter, find, map, replicate, ◌^◌}
pub use Rattle.mote_types.specs.declared.event.Pid.{Pid}
pub use Rattle.timer_core.specs.Code.Armings.{Armings, callback_slot, is_present_arming, no_armings, present_arming, renumbered}
pub use Rattle.timer_core.specs.Code.LinkedCells.{cell_in}
pub use Rattle.timer_core.specs.Code.Links.{AreApart, AreFlagged, IsList, IsTable, Names, cell_under, flag_of, led_to, link_of, linked, named_cells, next_of, timers_of, zero_linked}
unfoldable pub use Rattle.timer_core.specs.Code.Links.{listed_from}
pub use Rattle.timer_core.specs.Code.Neighbours.{EndsWith, Follows}
pub use Rattle.timer_core.specs.Code.Numbered.{IsNumbered}
pub use Rattle.timer_core.specs.Code.Slots.{are_placed, is_named, slot_of, timer_at}
pub use Rattle.timer_core.specs.Names.{is_callback_timer_of, is_event_timer_of, is_timer}
pub use Rattle.timer_core.specs.Code.Conditions.{IsNamed}
unfoldable pub use Rattle.timer_core.specs.Names.{all_timers}
pub use Rattle.timer_core.specs.Timers.{NamedCell, Timers, armed_with, cell_of, deadline, first_due, is_armed, is_due, no_timers, stop_timer, with_cell, zero_cell}
pub use Rattle.timer_core.specs.declared.table.LinkedCell.{LinkedCell}
pub use Rattle.timer_core.specs.declared.timer.Cell.{Cell}
pub use Rattle.timer_core.specs.declared.timer.Timer.{Timer}
