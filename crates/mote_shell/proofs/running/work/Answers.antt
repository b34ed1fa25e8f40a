use Rattle.std.proofs.Common.{ℕ, List, Option, Result, Ok, Err, IfOk}
use Rattle.std.specs.Prelude.{⊤}
use Rattle.mote_shell.proofs.running.work.Goals as goal
use Rattle.mote_shell.specs.NamedRuns.{IsStatusFor}
use Rattle.command_line.specs.declared.failure.Failure.{Failure}
use Rattle.mote_text.specs.declared.script.End.{End}

-- a status of an outcome that the arguments allow
allowed : {A : Type 0} (by_name : List ℕ → Option A) (words : List (List ℕ)) (IsDone : Result End Failure → Type 0)
    (result : Result ℕ Failure) →
    IfOk result (IsStatusFor by_name words IsDone) → IfOk result (IsStatusFor by_name words (λ _. ⊤))
allowed by_name words IsDone (Ok status) is =
    record { outcome = is.outcome; is_allowed = is.is_allowed; is_done = tt; is_status = is.is_status }
allowed by_name words IsDone (Err failure) is = tt

pub returns-clause-status : goal.returns-clause-status
returns-clause-status g c = allowed _ _ _ _ c.run_to_status.ensures.status
