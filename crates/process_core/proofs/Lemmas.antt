-- Re-exports the names and lemmas that the proofs here cite.
pub use Rattle.process_core.proofs.Common.{agenda_of, is_empty, is_only_marked, ComesTo, Continuation, FindsJob, answering, has_ended, is_in_activation, List, None, Process, Some, State, [], ap, arith, drop, false, from_application, from_marked, is_any_marked, is_ending, is_idle, is_marked, is_some, job_in, kept_in, length, length-map, length-set, listed, marked, nat_lt, nat_tests, not, numbers, others, passes_receiver, polls_alone, range_with_len, refl, reverse, scheduler_behind, scheduler_of, state_of, sym, take, true, with_mark, with_state, without, ℕ, ◌-◌, ◌<◌, ◌∙◌, ◌∷◌, ◌≡◌, ◌≤◌}
pub use Rattle.process_core.proofs.Listed.{added_listed, any_counted, changed_none, ends_added, ends_at, ends_others, kept_added, kept_at_first, kept_mark, kept_others, kept_state, mark_set, marked_below, marked_from_running, marked_kept, no_application_marked, numbers_listed, numbers_seen, off_list, on_list, only_counted, others_same, removed_listed, room_for, state_kept, state_set, without_listed}
pub use Rattle.process_core.proofs.LonePoll.{both_true, delivers_only, lone_poll, none_passed, passed, polls_alone_from_rest, rests_after_poll, unmarked_again}
pub use Rattle.process_core.proofs.Rest.{applications_from_comes_to, event_held, first_and_rest, idle_from_rest, if_none, length-from_marked, nothing_shown, order_at_boot, range_more, served_below}
pub use Rattle.process_core.proofs.Sound.{application_at_turn, behind_is_all, idle_sound, in_order, leaver_above, no_front, none_in, none_reported, not_ending, order_booting, order_marked, present, pushed, room_below, room_on_stack, sound-answered, sound-exiting, sound-given, sound-left, sound-quiet, sound-removed, sound-started, sound-waited, stays_here, turn_sound}
pub use Rattle.process_core.proofs.Yields.{deliver_to_yields, delivered, finds_after, finds_from, finds_next, give_yields_nothing, poll_one_yields, polled_first, polled_receiver, polls_end, polls_yield, received, told_apart}
