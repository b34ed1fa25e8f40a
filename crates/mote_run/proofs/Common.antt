-- Re-exports the names that most proofs here cite.
pub use Rattle.kernel_core.specs.Code.Steps.{GoesOn, Silently, entry_of, made}
pub use Rattle.kernel_core.specs.Inputs.{fed}
pub use Rattle.kernel_core.specs.Machine.{Machine, booted, is_bootable}
pub use Rattle.kernel_core.specs.Run.{Choices, ComesToRest, Running, Runs, after_step, after_steps, choices_after, at_start, gone_on, heard, is_still, one_step, stimulus_of, with_input}
pub use Rattle.kernel_core.specs.declared.config.Config.{Config}
pub use Rattle.kernel_core.specs.declared.step.Step.{Step}
pub use Rattle.mote_run.specs.Code.Lines.{lines}
pub use Rattle.mote_run.specs.Code.LoopInvariant.{GoesOnFrom, HasCome, Ran, ReadWhileRunning, WroteWholeLines}
pub use Rattle.mote_run.specs.Code.Reading.{CanBeFed, IsReady, ReadPart, ReadSoFar, Takes, number_after, said}
pub use Rattle.mote_run.specs.Code.Way.{Follows, Goes, HasHeard, Moment, Went, end_at, end_of, moment}
pub use Rattle.mote_run.specs.RunText.{Exchange, Exchanged, HasRead, HasRunTo, IsRunText, OfEachScript, OnWholeLines}
pub use Rattle.mote_run.specs.Trace.{LawfulRun, ReadsNoFurther, RunPromise}
pub use Rattle.mote_types.specs.declared.fault.RunFault.{RunFault}
pub use Rattle.mote_run.specs.declared.script.Script.{Script}
pub use Rattle.mote_text.proofs.Reading.{Gives, another_byte, line_of_input, line_of_no_form, line_of_nothing, line_too_long, script_limit_is, script_too_long, start}
pub use Rattle.mote_text.specs.Code.Writing.{WritesOn}
pub use Rattle.mote_text.specs.Code.Lines.{GoesOnAt, has_no_end, unfinished, unfinished_after, with_end}
unfoldable pub use Rattle.mote_text.specs.Code.Reading.{read_on}
pub use Rattle.mote_text.specs.Code.Reading.{Before, Reading, preceded_by}
unfoldable pub use Rattle.mote_text.specs.Script.{read_line}
pub use Rattle.mote_text.specs.Script.{argument_of, inputs, line_limit, read_behind, read_bytes, read_number, read_words, script_limit, with_line}
pub use Rattle.mote_text.specs.Transcript.{final_line, text}
pub use Rattle.mote_text.specs.declared.script_lines.Taken.{Taken}
pub use Rattle.mote_text.specs.declared.script.BadLine.{BadLine}
pub use Rattle.mote_text.specs.declared.script.End.{End}
pub use Rattle.mote_types.specs.Applications.{Applications, says_of}
pub use Rattle.mote_types.specs.Entries.{is_halt}
pub use Rattle.mote_types.specs.declared.entry.Entry.{Entry}
pub use Rattle.mote_types.specs.declared.entry.Input.{Input}
pub use Rattle.mote_types.specs.declared.event.Stimulus.{Stimulus}
pub use Rattle.std.proofs.lemmas.Bool.Decides.{nat_tests}
pub use Rattle.std.proofs.lemmas.List.{append-nil, drop-append-le, drop-drop, drop-take, drop_more, length-drop, length-take, length-take-le, take-append-drop, take_all}
pub use Rattle.std.proofs.lemmas.List.Elements.{filter-append, filter_map-append}
pub use Rattle.std.specs.List.{list_any, slice_get, slice_range}
pub use Rattle.std.specs.Result.{IsErrAnd}
