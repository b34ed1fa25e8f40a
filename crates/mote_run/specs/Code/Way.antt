-- The way of a run from one state to another, by the text that is left to write.
use Rattle.std.specs.List.{list_any}
use Rattle.std.specs.Prelude.{◌≡◌, ℕ, Bool, List, [], ◌∷◌, ◌++◌, Result, MatchResult, if◌then◌else◌}
use Rattle.mote_types.specs.declared.event.Stimulus.{Stimulus}
use Rattle.mote_types.specs.declared.entry.Entry.{Entry}
use Rattle.mote_types.specs.declared.entry.Input.{Input}
use Rattle.mote_types.specs.Applications.{Applications}
use Rattle.mote_types.specs.Entries.{is_halt}
use Rattle.mote_text.specs.Code.Reading.{Reading, preceded_by}
use Rattle.mote_text.specs.Transcript.{final_line}
use Rattle.mote_text.specs.declared.script.End.{End}
use Rattle.kernel_core.specs.Machine.{Machine}
use Rattle.kernel_core.specs.Run.{Running, Runs, heard}
use Rattle.mote_run.specs.declared.running_mote.RunningMote.{RunningMote}
use Rattle.mote_run.specs.Code.Lines.{lines}

-- each application says now what it said before these entries, to all that it received in them and to what it receives next
pub record HasHeard (before : Applications) (entries : List Entry) (now : Applications) : Type 0 where
  pub each : (p : ℕ) (next : Stimulus) (later : List Stimulus) → now p (next ∷ later) ≡ before p (heard p entries ++ (next ∷ later))

-- a moment of a run: what was written, pending output, what the applications say to what they receive from now on, and the machine
pub record Moment : Type 0 where
  pub given : List ℕ
  pub pending : List ℕ
  pub says : Applications
  pub machine : Machine

abbrev pub moment : List ℕ → RunningMote → Applications → Moment
moment given mote says = record { given = given; pending = mote.text.items; says = says; machine = mote.kernel.machine }

-- how a run with these entries ends, if its script ends like this
abbrev pub end_of : List Entry → End → End
end_of entries end = if list_any is_halt entries then End.Halted else end

-- how a run ends, by its machine, if its script ends like this
abbrev pub end_at : Machine → End → End
end_at machine end = if machine.is_halted then End.Halted else end

-- if these later inputs are submitted, and the script ends like this, `text` is the whole text of the run, and it ends with `end`
pub record Follows (quiet : Bool) (here : Moment) (later : Reading) (text : List ℕ) (end : End) : Type 0 where
  pub last : Running
  pub runs : Runs here.says (record { machine = here.machine; entries = [] }) later.0 last
  pub ends : end ≡ end_at here.machine (end_of last.entries later.1)
  pub is_text : text ≡ here.given ++ (here.pending ++ (lines quiet last.entries ++ final_line end))

-- On the way these inputs were submitted, and more was written: whatever text follows from the first state follows from the second
pub record Went (quiet : Bool) (inputs : List Input) (from to : Moment) : Type 0 where
  pub out : List ℕ
  pub given : to.given ≡ from.given ++ out
  pub onward : (later : Reading) (text : List ℕ) (end : End) → Follows quiet from (preceded_by inputs later) text end →
      Follows quiet to later text end

-- it went to this state; or, if the result is a fault, to some other one in which the same was written
abbrev pub Goes : {T Fault : Type 0} → Result T Fault → Bool → List Input → Moment → Moment → Type 0
Goes answer quiet inputs from to =
    MatchResult answer (λ _. Went quiet inputs from to)
    (λ _. (pending : List ℕ) × (says : Applications) × (machine : Machine)
    × Went quiet inputs from (record { given = to.given; pending = pending; says = says; machine = machine }))
