-- Re-exports the names that most proofs here cite.
pub use Rattle.mote_types.specs.Codes.{plain_event}
pub use Rattle.mote_types.specs.EventNumbers.{POLL}
pub use Rattle.mote_types.specs.declared.event.Event.{Event}
pub use Rattle.mote_types.specs.declared.event.Origin.{Origin}
pub use Rattle.mote_types.specs.declared.event.Pid.{Pid}
pub use Rattle.mote_types.specs.declared.event.Stimulus.{Stimulus}
pub use Rattle.mote_types.specs.declared.reply.Reply.{Reply}
pub use Rattle.process_core.specs.Agenda.{Item, Job}
pub use Rattle.process_core.specs.Code.KernelReceivers.{behind_kernel_receivers, is_other_event, is_other_than, kernel_receivers_passed}
pub use Rattle.process_core.specs.Code.LonePoll.{IsLonePoll, is_only_marked, polled_alone, polls_alone, unmarked}
pub use Rattle.process_core.specs.Code.Nesting.{AreIn, IsNested, IsSound, answering, has_ended, is_one_of, leaving}
pub use Rattle.process_core.specs.Code.OpenWork.{agenda_of, base_items, front_items, items_of, poll_items, receiver_items}
pub use Rattle.process_core.specs.Code.ProcessList.{EndsWithKernel, IsKept, kernel_numbers, listed, others, process_at, state_at}
unfoldable pub use Rattle.process_core.specs.Code.ProcessList.{mark_at, with_bit}
pub use Rattle.process_core.specs.Code.SchedulerFields.{BootsKnown, IsBare, IsInOrder, IsOrdered, StartsKnown, active_in, front_after, is_event, kept_in, queued_of, scheduler_behind, scheduler_of, turn_in}
pub use Rattle.process_core.specs.Code.SchedulerView.{job_in, kept_at_boot, told}
pub use Rattle.process_core.specs.Code.Walks.{from_application, from_marked, is_broadcast, is_kernel_next, passes_receiver, receiver_is_next}
pub use Rattle.process_core.specs.Code.FindsJob.{FindsJob}
pub use Rattle.process_core.specs.Code.Yields.{Yields}
pub use Rattle.process_core.specs.Idle.{is_empty, is_idle}
pub use Rattle.process_core.specs.Processes.{at_first, changed, is_any_marked, is_ending, is_kernel_process, is_marked, numbers, state_of, with_mark, with_state, without}
pub use Rattle.process_core.specs.Code.Conditions.{IsApplication}
pub use Rattle.process_core.specs.Code.Invariant.{IsOfMote}
pub use Rattle.process_core.specs.Code.Invariant.{is_in_activation}
pub use Rattle.process_core.specs.Scheduler.{Scheduler, after_front, after_front_of, at_boot, in_front, job, marked, state_in, wants_round}
pub use Rattle.process_core.specs.Code.Items.{ComesTo, after_items}
pub use Rattle.process_core.specs.Code.Invariant.{IsWellFormed, is_shown}
pub use Rattle.std.proofs.lemmas.Bool.Decides.{nat_tests}
pub use Rattle.std.proofs.lemmas.List.{get_or-set_other, get_or-set_same, length-append, length-map, length-reverse, length-set, reverse-append}
pub use Rattle.std.proofs.lemmas.List.Folds.{list_any-append}
pub use Rattle.std.proofs.lemmas.Map.Keys.{IsDistinct-cons, IsDistinct-head, IsDistinct-tail}
pub use Rattle.std.proofs.lemmas.Map.Steps.{length-le_from_distinct_below}
pub use Rattle.std.specs.List.{AllByRecursion, list_any, range_with_len}
unfoldable pub use Rattle.std.specs.List.{IsDistinct}
pub use Rattle.process_core.specs.declared.process.Process.{Process}
pub use Rattle.process_core.specs.declared.open_work.Base.{Base}
pub use Rattle.process_core.specs.declared.open_work.Continuation.{Continuation}
pub use Rattle.process_core.specs.declared.state.State.{State}
pub use Rattle.std.proofs.Common.{Bool, IfNone, List, None, Option, Some, [], add-one, ap, arith, drop, eqb, false, flat_map, if◌then◌else◌, is_some, length, lit<, map, nat_eq, nat_lt, not, option_map, refl, replicate, reverse, set, slice_get, suc, sym, take, true, zero, ℕ, ◌&&◌, ◌*◌, ◌++◌, ◌+◌, ◌-◌, ◌<◌, ◌==◌, ◌^◌, ◌∙◌, ◌∷◌, ◌≡◌, ◌≢◌, ◌≤◌}
pub use Rattle.process_core.specs.declared.scheduler_fields.SchedulerFields.{SchedulerFields}
pub use Rattle.process_core.specs.declared.front.Front.{Front}
