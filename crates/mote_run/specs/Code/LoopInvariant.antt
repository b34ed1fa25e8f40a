-- What holds between two parts of a run's script, and at its end.
use Rattle.std.specs.Prelude.{◌≡◌, ◌≢◌, ◌≤◌, ℕ, Bool, true, List, [], ◌++◌, length, Result, IfOk, IsErrOf}
use Rattle.mote_types.specs.declared.entry.Input.{Input}
use Rattle.mote_text.specs.Script.{inputs, read_lines, whole_lines}
use Rattle.mote_text.specs.declared.script.End.{End}
use Rattle.mote_types.specs.declared.fault.RunFault.{RunFault}
use Rattle.mote_run.specs.declared.script.Script.{Script}
use Rattle.mote_run.specs.Code.Reading.{ReadSoFar}
use Rattle.mote_run.specs.Code.Way.{Follows, Moment, Went}

-- The run has come from its start to here: all lines that have ended were executed. The bytes that a named source says were taken
-- were read
pub record HasCome (source_named sink_named : Type 0) (quiet : Bool) (taken_old taken_new : List ℕ) (start here : Moment)
    (script : Script) : Type 0 where
  pub read : List ℕ
  pub earlier : List Input
  pub taken : source_named → taken_new ≡ taken_old ++ read
  pub so_far : ReadSoFar read earlier script
  pub went : sink_named → Went quiet earlier start here

-- all text of whole lines was written
pub record WroteWholeLines (quiet : Bool) (read : List ℕ) (start : Moment) (given : List ℕ) : Type 0 where
  pub whole : List Input
  pub have_form : read_lines 1 End.Finished (whole_lines read) ≡ (whole, End.Finished)
  pub all : (text : List ℕ) (end : End) → Follows quiet start (whole, End.Finished) text end → text ≡ given

-- no whole line of these bytes is malformed, and no run from the start on their inputs halts
pub record GoesOnFrom (quiet : Bool) (start : Moment) (read : List ℕ) : Type 0 where
  pub whole : List Input
  pub have_form : read_lines 1 End.Finished (whole_lines read) ≡ (whole, End.Finished)
  pub ends : (text : List ℕ) (end : End) → Follows quiet start (whole, End.Finished) text end → end ≡ End.Finished

-- the last piece was read where the run went on after all that was read before it
pub record ReadWhileRunning (quiet : Bool) (start : Moment) (taken_old taken_new : List ℕ) : Type 0 where
  pub before : List ℕ
  pub piece : List ℕ
  pub taken : taken_new ≡ taken_old ++ (before ++ piece)
  pub size : length piece ≤ 4096
  pub goes_on : before ++ piece ≢ [] → GoesOnFrom quiet start before

-- What was written from the start until the run returned, when this was read: a prefix of the text of each script that begins with
-- `read`. If the run ended, the text that `left_at` has for its end is left to write
pub record Ran (quiet : Bool) (read : List ℕ) (is_ended : Bool) (start : Moment) (given : List ℕ) (left_at : End → List ℕ)
    (answer : Result End RunFault) : Type 0 where
  pub out : List ℕ
  pub is_given : given ≡ start.given ++ out
  pub text : (more : List ℕ) → (is_ended ≡ true → more ≡ []) → (text : List ℕ) (end : End) →
      Follows quiet start (inputs (read ++ more)) text end →
      (left : List ℕ) × (text ≡ given ++ left) × IfOk answer (λ answered. (left ≡ left_at answered) × (answered ≡ end))
  pub after_read_fault : IsErrOf answer RunFault.Read → WroteWholeLines quiet read start given
