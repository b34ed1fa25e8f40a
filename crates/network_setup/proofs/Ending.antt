-- Where one of the first lines isn't taken, the run ends.
use Rattle.std.proofs.Common.{◌≡◌, ◌≤◌, ◌∙◌, ℕ, Bool, List, [], append-nil, length, refl, sym, Option, Result, Err}
use Rattle.mote_text.specs.Script.{script_limit}
use Rattle.mote_text.specs.declared.script.End.{End}
use Rattle.mote_text.specs.Script.{script_lines}
use Rattle.network_run.specs.NetworkRunText.{Gives}
use Rattle.network_setup.specs.FirstLines.{IsBadLine}
use Rattle.network_setup.specs.ScriptRuns.{EndsAtOnce, HasRunScript, bad_line, no_memory}
use Rattle.network_setup.specs.SetupView.{empty_setup}
use Rattle.network_setup.specs.declared.fault.LineFault.{LineFault}
use Rattle.network_setup.specs.declared.fault.SetUpRunFault.{SetUpRunFault}

pub ended_in_setup : (quiet : Bool) (only : Option ℕ) (script old new : List ℕ) (number : ℕ) (fault : LineFault) (result : Result End SetUpRunFault) →
    length script ≤ script_limit → (fault ≡ LineFault.Malformed → IsBadLine number (script_lines script) empty_setup) →
    (fault ≡ LineFault.Malformed → Gives old new (λ (written : List ℕ). EndsAtOnce (End.BadLine number) written result)) →
    (fault ≡ LineFault.Memory → (result ≡ Err SetUpRunFault.Memory) × (new ≡ old)) →
    Gives old new (λ (written : List ℕ). HasRunScript quiet only script written result)
ended_in_setup quiet only script old new number LineFault.Malformed result short bad ends none =
    let ended = ends refl in (ended.0, ended.1, bad_line number short (bad refl) ended.2)
ended_in_setup quiet only script old new number LineFault.Memory result short bad ends none =
    let refused = none refl in ([], refused.1 ∙ sym (append-nil old), no_memory refused.0 refl)
