-- The names that most proofs here cite.
use Rattle.std.proofs.Common.{arith}
pub use Rattle.arrayvec.specs.ArrayVec.{ArrayVec}
unfoldable pub use Rattle.device_core.specs.PacketQueue.{free_slot}
pub use Rattle.device_core.specs.PacketQueue.{PacketQueue, front_slot}
pub use Rattle.device_core.specs.SerialLine.{after_bytes, after_line, is_line_end, line_of, next_line, quiet_line}
pub use Rattle.device_core.specs.declared.frame.Frame.{Frame}
pub use Rattle.kernel_core.specs.Calls.{after_call, answer_done, callback_refusal, is_callback_timer, refused_or}
pub use Rattle.kernel_core.specs.Code.Carrying.{carrying, event_carrying, job_carrying}
unfoldable pub use Rattle.kernel_core.specs.Code.Cost.{costs}
pub use Rattle.kernel_core.specs.Code.Cost.{IsPaid, cost, present, round_cost, starts}
pub use Rattle.kernel_core.specs.Code.Draws.{HasQueueableEvents, IsQueueable, IsQueueableJob, draws, draws_of_event, draws_of_job}
pub use Rattle.kernel_core.specs.Code.Steps.{GoesSilently, MakesEntry, Silently}
pub use Rattle.kernel_core.specs.Code.View.{ComesToJob, HoldsFrames, IsAtWork, IsInOrder, IsServed, entries_left_in, is_cancelled, machine_of}
pub use Rattle.kernel_core.specs.Code.Pending.{no_pending_entries, pending_items}
pub use Rattle.kernel_core.specs.Expiries.{cancelled_if, expiries_cancelled}
pub use Rattle.kernel_core.specs.Inputs.{effect, fed}
pub use Rattle.kernel_core.specs.KernelProcesses.{serve}
pub use Rattle.kernel_core.specs.Laws.BlockHistory.{Blocks, blocks_of, no_blocks, use_of}
pub use Rattle.kernel_core.specs.Laws.Deeds.{Deed, Touch, deed, heap_touch, managed_touch}
pub use Rattle.kernel_core.specs.Laws.EventLaws.{IsAtRest, accepted_events, event_for, given_events, has_ended, is_exit}
pub use Rattle.kernel_core.specs.Laws.Isolation.{IsAnsweredAlone, is_managed_call, managed_calls, managed_replies}
pub use Rattle.kernel_core.specs.Laws.MemoryLaws.{AreOwn, IsReplyFor, are_names}
pub use Rattle.kernel_core.specs.Laws.OwnTurns.{HasCall, OwnTurn, Turn, is_done, is_turn_entry, own, own_from, reply_in, reply_of, ticks_in, up_to_call}
pub use Rattle.kernel_core.specs.Laws.RunLaws.{BlocksAreOwn, EventsArriveInOrder, TimersAreKept}
pub use Rattle.kernel_core.specs.Laws.TimerLaws.{clock_after, is_timer_event, ripe_by, standing, timer_events}
pub use Rattle.kernel_core.specs.Machine.{Machine, booted, free_places, is_bootable, mark, scheduled, shown_first, sizes_of, with_event, with_serial, with_timers}
pub use Rattle.kernel_core.specs.PacketProcess.{announce, announce_next, has_news}
unfoldable pub use Rattle.kernel_core.specs.Repeating.{times}
pub use Rattle.kernel_core.specs.Run.{Choices, ComesToRest, Running, Runs, StepMade, after_step, after_steps, choices_after, at_start, gone_on, heard, is_at_rest, is_still, job_done, one_step, silent, with_input, with_more_work, within_limit, work_limit}
pub use Rattle.kernel_core.specs.SerialProcess.{broadcast_line, line_served, post_continue, serial_line, serve_line}
pub use Rattle.kernel_core.specs.TimerProcesses.{exited_application, expiry_of, is_any_due, post_due, post_expiry, post_first_due}
pub use Rattle.kernel_core.specs.declared.config.Config.{Config}
pub use Rattle.kernel_core.specs.declared.kernel_fields.KernelFields.{KernelFields}
pub use Rattle.mmem_core.specs.ManagedStore.{block_of, handles, size_of, taken_by}
pub use Rattle.mote_types.specs.Applications.{Applications, Says, says_of}
pub use Rattle.mote_types.specs.BlockNames.{number_of}
pub use Rattle.mote_types.specs.Codes.{is_reserved, number_event, plain_event}
pub use Rattle.mote_types.specs.EventNumbers.{CONTINUE, EXIT, EXITED, INIT, PACKET, POLL, SERIAL_LINE, TIMER}
pub use Rattle.mote_types.specs.Code.StateMachines.{fold_says}
pub use Rattle.mote_types.specs.declared.call.Call.{Call}
pub use Rattle.mote_types.specs.declared.entry.Entry.{Entry}
pub use Rattle.mote_types.specs.declared.entry.Input.{Input}
pub use Rattle.mote_types.specs.declared.entry.Note.{Note}
pub use Rattle.mote_types.specs.declared.event.Event.{Event}
pub use Rattle.mote_types.specs.declared.event.Origin.{Origin}
pub use Rattle.mote_types.specs.declared.event.Payload.{Payload}
pub use Rattle.mote_types.specs.declared.event.Stimulus.{Stimulus}
pub use Rattle.mote_types.specs.declared.refusal.Refusal.{Refusal}
pub use Rattle.mote_types.specs.declared.reply.Reply.{Reply}
pub use Rattle.node_memory.specs.Code.Ask.{ask}
pub use Rattle.node_memory.specs.Frames.{frame_dropped, frame_taken}
pub use Rattle.node_memory.specs.BlockRefusals.{is_name}
pub use Rattle.node_memory.specs.Memory.{Memory, fresh_memory}
pub use Rattle.process_core.specs.Agenda.{Item, Job, Queued}
pub use Rattle.process_core.specs.Code.Items.{ComesTo, after_items}
pub use Rattle.process_core.specs.Code.LonePoll.{IsLonePoll, polled_alone, unmarked}
pub use Rattle.process_core.specs.Code.SchedulerView.{SchedulerView, awaiting_nothing, job_in}
pub use Rattle.process_core.specs.Idle.{is_idle}
pub use Rattle.process_core.specs.Processes.{is_any_marked, is_application, is_kernel_process, is_on_list, is_process, is_running, numbers, state_of, with_mark, with_state, without}
pub use Rattle.process_core.specs.Requests.{farewells}
pub use Rattle.process_core.specs.Scheduler.{Scheduler, after_front, after_front_of, after_item, delivery, has_room, in_front, job, job_at, job_of_event, job_of_item, marked, state_in}
pub use Rattle.process_core.specs.declared.process.Process.{Process}
pub use Rattle.process_core.specs.declared.state.State.{State}
use Rattle.std.proofs.lemmas.Bool.Decides.{nat_tests}
pub use Rattle.std.proofs.lemmas.List.{get_or-replicate, length-map}
pub use Rattle.std.proofs.lemmas.List.Elements.{All-head, All-tail}
pub use Rattle.std.proofs.lemmas.List.Folds.{list_all-append, list_any-append}
pub use Rattle.std.proofs.lemmas.List.Sums.{fold-append}
pub use Rattle.std.proofs.lemmas.Map.Keys.{IsDistinct-head, IsDistinct-tail}
pub use Rattle.std.specs.List.{AllByRecursion, IsDistinct, after_first, cons_option, list_all, list_any, range_with_len}
pub use Rattle.std.specs.Option.{option_map}
pub use Rattle.timer_core.specs.Code.Armings.{Armings, is_present_arming, present_arming}
unfoldable pub use Rattle.timer_core.specs.Names.{all_timers}
pub use Rattle.timer_core.specs.Names.{is_timer}
pub use Rattle.timer_core.specs.Timers.{Timers, first_due, is_armed, is_due, no_timers, set_timer, without_callback_timers}
pub use Rattle.timer_core.specs.declared.timer.Timer.{Timer}

-- the rules that nearly every proof here uses
pub ruleset decide = (arith, nat_tests)
