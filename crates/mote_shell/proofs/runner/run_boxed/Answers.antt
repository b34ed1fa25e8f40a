use Rattle.std.proofs.Common.{arith, ◌≡◌, ℕ, Bool, false, List, Result, Ok, Err, IsErrOf, length, ap, refl}
use Rattle.std.proofs.Math.Logic.{◌↔◌}
use Rattle.std.proofs.lemmas.Bool.{true_from_ne_false}
use Rattle.std.specs.Result.{IsErrAnd}
use Rattle.kernel_core.specs.Machine.{is_bootable}
use Rattle.kernel_core.specs.declared.config.Config.{Config}
use Rattle.mote_run.specs.Code.Runs as of_boxes
use Rattle.mote_run.specs.RunText.{Exchanged, HasRunTo}
use Rattle.mote_run.specs.Trace.{RunPromise}
use Rattle.mote_shell.proofs.runner.run_boxed.Goals as goal
use Rattle.mote_shell.specs.NamedRuns.{HasRunAs, IsAnswer}
use Rattle.command_line.specs.declared.failure.Failure.{Failure}
use Rattle.mote_text.specs.declared.script.End.{End}
use Rattle.mote_types.specs.Applications.{Applications}
use Rattle.mote_types.specs.declared.fault.BootFault.{BootFault}
use Rattle.mote_types.specs.declared.fault.MoteFault.{MoteFault}
use Rattle.mote_types.specs.declared.fault.RunFault.{RunFault}

module _ {config : Config} {says : Applications} {quiet : Bool} {taken_old taken_new : List ℕ} {is_ended : Bool}
    {given_old given_new : List ℕ} where
  ended_as : {end : End} → Exchanged taken_old taken_new is_ended given_old given_new (RunPromise config says quiet (Ok end)) →
      Exchanged taken_old taken_new is_ended given_old given_new (HasRunAs config says quiet (Ok end))
  ended_as x = grind arith

  -- if a device failed there is a run's promise, and if no mote was run nothing was read or written
  failed_as : (fault : MoteFault)
      → Exchanged taken_old taken_new is_ended given_old given_new (HasRunTo config says quiet (MoteFault.Run RunFault.Read) (Err fault)) →
      of_boxes.OfRun (Err fault)
      (λ answer. Exchanged taken_old taken_new is_ended given_old given_new (RunPromise config says quiet answer)) →
      Exchanged taken_old taken_new is_ended given_old given_new (HasRunAs config says quiet (Err (Failure.Mote fault)))
  failed_as (MoteFault.Run fault) ran x = grind arith
  failed_as (MoteFault.Boot fault) x none = grind arith

answer_of : (config : Config) (fault : MoteFault)
    → IsErrOf {T = End} (Err fault) (MoteFault.Boot BootFault.BadSizes) ↔ (is_bootable config ≡ false)
    → IsAnswer config (Err (Failure.Mote fault))
answer_of config (MoteFault.Boot BootFault.BadSizes) bad = bad.0 refl
answer_of config (MoteFault.Boot BootFault.Memory) bad = tt
answer_of config (MoteFault.Run fault) bad = true_from_ne_false (is_bootable config) (λ is. absurd (let e = bad.1 is in cc))

is_failure : (result : Result End Failure) (fault : MoteFault) → IsErrAnd result (λ failure. failure ≡ Failure.Mote fault)
    → result ≡ Err (Failure.Mote fault)
is_failure (Ok end) fault is = absurd is
is_failure (Err failure) fault is = ap Err is

pub returns-clause-run : goal.returns-clause-run
returns-clause-run g c = λ source_named sink_named. ended_as (c.in_ok-run_boxes.ensures.promise source_named sink_named)

pub returns-in_err-run_boxes-clause-run : goal.returns-in_err-run_boxes-clause-run
returns-in_err-run_boxes-clause-run g c = λ source_named sink_named.
    rw (is_failure _ _ c.from_residual.ensures.1)
    (failed_as c.in_err-run_boxes.field-0.0 (c.in_err-run_boxes.ensures.ran source_named sink_named)
    (c.in_err-run_boxes.ensures.promise source_named sink_named))

pub returns-in_err-run_boxes-clause-answer : goal.returns-in_err-run_boxes-clause-answer
returns-in_err-run_boxes-clause-answer g c =
    let config : Config = of_boxes.config_of c.args.sizes (length c.args.boxes.now) in
    rw (is_failure _ _ c.from_residual.ensures.1) (answer_of config c.in_err-run_boxes.field-0.0 c.in_err-run_boxes.ensures.bad_sizes)

pub returns-clause-answer : goal.returns-clause-answer
returns-clause-answer g c =
    true_from_ne_false (is_bootable (of_boxes.config_of c.args.sizes (length c.args.boxes.now)))
    (λ is. absurd (let e = c.in_ok-run_boxes.ensures.bad_sizes.1 is in cc))
