-- The run of a whole script, from its first line on.
use Rattle.std.specs.Prelude.{◌≡◌, ◌≤◌, ◌<◌, ◌+◌, ℕ, Bool, true, false, List, [], ◌++◌, length, Option, Result, Ok, Err}
use Rattle.std.specs.Option.{option_map_or}
use Rattle.mote_text.specs.declared.script.End.{End}
use Rattle.mote_text.specs.Script.{script_limit, script_lines}
use Rattle.network_run.specs.declared.fault.NetworkRunFault.{NetworkRunFault}
use Rattle.network_setup.specs.FirstLines.{AreCarriedOut, IsBadLine}
use Rattle.network_setup.specs.MoteApps.{voices_of}
use Rattle.network_setup.specs.Setting.{is_mote}
use Rattle.network_setup.specs.SetUpRuns.{HasBooted, HasRunSetUp, start_of}
use Rattle.network_setup.specs.SetupView.{SetupView, empty_setup}
use Rattle.network_setup.specs.declared.fault.SetUpRunFault.{SetUpRunFault}
use Rattle.network_steps.specs.NetworkScript.{read_network_lines}
use Rattle.network_steps.specs.NetworkText.{last_line}

-- only the last line was written, or a prefix of it where writing failed
abbrev pub EndsAtOnce : End → List ℕ → Result End SetUpRunFault → Type 0
EndsAtOnce end written (Ok told) = (told ≡ end) × (written ≡ last_line end)
EndsAtOnce end written (Err fault) = (fault ≡ SetUpRunFault.Run NetworkRunFault.Write) × (rest : List ℕ) × (written ++ rest ≡ last_line end)

-- the mote that is asked for, if one is, is one of this many
abbrev pub is_there : Option ℕ → ℕ → Bool
is_there only motes = option_map_or (is_mote motes) only true

-- the lines up to the first input were executed, and set up this network; those from that one on are left, and it is line `first`
pub record IsSetUp (script : List ℕ) (first : ℕ) (left : List (List ℕ)) (setup : SetupView) : Type 0 where
  pub short : length script ≤ script_limit
  pub lines : AreCarriedOut (script_lines script) left empty_setup setup
  pub number : first + length left ≡ 1 + length (script_lines script)

-- how the run of a script ended, and what it wrote. `only` is the mote that is asked for
pub data HasRunScript (quiet : Bool) (only : Option ℕ) (script written : List ℕ) (result : Result End SetUpRunFault) : Type 0 where
  too_long : script_limit < length script → EndsAtOnce End.TooLong written result → HasRunScript quiet only script written result
  bad_line : (n : ℕ) → length script ≤ script_limit → IsBadLine n (script_lines script) empty_setup →
      EndsAtOnce (End.BadLine n) written result → HasRunScript quiet only script written result
  no_mote : (first : ℕ) (left : List (List ℕ)) (setup : SetupView) → IsSetUp script first left setup →
      is_there only (length setup.motes) ≡ false → result ≡ Err SetUpRunFault.NoMote → written ≡ [] →
      HasRunScript quiet only script written result
  runs : (first : ℕ) (left : List (List ℕ)) (setup : SetupView) → IsSetUp script first left setup →
      is_there only (length setup.motes) ≡ true → HasBooted setup →
      HasRunSetUp quiet (start_of setup) (voices_of setup.applications) (read_network_lines (length setup.motes) first left) written result →
      HasRunScript quiet only script written result
  no_memory : result ≡ Err SetUpRunFault.Memory → written ≡ [] → HasRunScript quiet only script written result
