-- The way of a run from one state to another.
use Rattle.std.specs.Prelude.{◌≡◌, ⊤, ◌+◌, ◌⊎◌, ℕ, Bool, true, false, List, [], ◌∷◌, ◌++◌, map, Option, None, Some, Result, MatchResult, if◌then◌else◌}
use Rattle.mote_text.specs.declared.script.End.{End}
use Rattle.network_session.specs.Network.{NetworkView}
use Rattle.network_run.specs.NetworkRunText.{CanEnd, IsExhausted, Refuses}
use Rattle.mote_session.specs.Voices.{Voices}
use Rattle.network_steps.specs.Code.Calls.{Speak}
use Rattle.network_steps.specs.Code.Turns.{ends_open}
use Rattle.network_run.specs.Code.Ready.{IsRefusedOf, IsWithin}
use Rattle.mote_text.specs.Code.Writing.{WritesOn}
use Rattle.network_run.specs.Outside.{AreInTurn, Outside, all_outside, givens}
use Rattle.network_run.specs.declared.fault.NetworkRunFault.{NetworkRunFault}
use Rattle.network_steps.specs.NetworkRuns.{IsResting, Leads, Move, moves_text}
use Rattle.network_steps.specs.StepsView.{StepsView}
use Rattle.network_steps.specs.Works.{inputs_waiting}
use Rattle.network_steps.specs.declared.came.Phase.{Phase}
use Rattle.network_steps.specs.declared.came.Waiting.{Waiting}
use Rattle.network_steps.specs.declared.input.NetworkInput.{NetworkInput}

-- the state of a run: what was written, pending output, the network, and what the applications say from now on
pub record Moment : Type 0 where
  pub given : List ℕ
  pub due : List ℕ
  pub net : NetworkView
  pub voices : Voices

abbrev pub moment : List ℕ → List ℕ → NetworkView → Voices → Moment
moment given due net voices = record { given = given; due = due; net = net; voices = voices }

-- moves in which this came from outside, with the calls of the applications; their text was written, or is pending
pub record Went (quiet : Bool) (outside : List Outside) (from to : Moment) : Type 0 where
  pub moves : List Move
  pub leads : Leads from.net moves to.net
  pub calls : Speak from.net moves from.voices to.voices
  pub carried : all_outside moves ≡ outside
  pub answered : ends_open moves ≡ false
  pub within : IsWithin from.net → IsWithin to.net
  pub writes : WritesOn from.given from.due to.given to.due (moves_text quiet from.net moves)

abbrev pub is_write : NetworkRunFault → Bool
is_write NetworkRunFault.Write = true
is_write (NetworkRunFault.Refused fault) = false

-- some of this came, and the rest is left; if writing failed, some text is lost
pub record Stopped (quiet : Bool) (outside : List Outside) (left : List Outside) (lost : List ℕ) (from to : Moment) : Type 0 where
  pub carried : List Outside
  pub parts : outside ≡ carried ++ left
  pub went : Went quiet carried from (record to { due = lost })

-- the network refuses its next step or what comes next, unless writing failed
abbrev pub IsReason : NetworkRunFault → NetworkView → List Outside → Type 0
IsReason NetworkRunFault.Write net left = ⊤
IsReason (NetworkRunFault.Refused fault) net left = Refuses net left fault

-- a fault: text is lost only if writing failed. A refused call is no move
pub record Faulted (quiet : Bool) (outside : List Outside) (fault : NetworkRunFault) (from to : Moment) : Type 0 where
  pub left : List Outside
  pub why : IsReason fault to.net left
  pub much : IsRefusedOf fault from.net
  pub lost : List ℕ
  pub kept : is_write fault ≡ false → lost ≡ to.due
  pub voices : Voices
  pub stopped : Stopped quiet outside left lost from (record to { voices = voices })

-- nothing is left to do or to be reported, and no input waits
pub record IsAtRest (s : StepsView) : Type 0 where
  pub rests : IsResting s.net
  pub phase : s.phase ≡ Phase.Resting
  pub sending : s.sending ≡ None
  pub waiting : s.waiting ≡ None

-- the network rests; or it has used up its rounds
abbrev pub RestsIf : Bool → StepsView → Type 0
RestsIf true s = IsAtRest s
RestsIf false s = IsExhausted s.net

-- the input that waits comes later
abbrev pub outside_waiting : Option Waiting → List Outside
outside_waiting waiting = map Outside.Given (inputs_waiting waiting)

-- this came, if the network rests; some may be left if it has used up its rounds
pub record Takes (quiet : Bool) (outside : List Outside) (rests : Bool) (from to : Moment) : Type 0 where
  pub left : List Outside
  pub all : rests ≡ true → left ≡ []
  pub stopped : Stopped quiet outside left to.due from to

abbrev pub TakesIf : Result Bool NetworkRunFault → Bool → List Outside → Moment → Moment → Type 0
TakesIf result quiet outside from to =
    MatchResult result (λ rests. Takes quiet outside rests from to) (λ fault. Faulted quiet outside fault from to)

abbrev pub IsFor : ℕ → NetworkInput → Type 0
IsFor m (NetworkInput.ForMote number input) = number ≡ m + 1
IsFor m _ = ⊥

-- an input, and before it the time for its mote, or nothing
abbrev pub IsWithTime : NetworkInput → List Outside → Type 0
IsWithTime input outside = (times : List Outside) × (outside ≡ times ++ Outside.Given input ∷ [])
    × ((times ≡ []) ⊎ ((m : ℕ) × (times ≡ Outside.Time m ∷ []) × IsFor m input))

abbrev pub TakesInputIf : Result Bool NetworkRunFault → Bool → NetworkInput → Moment → Moment → Type 0
TakesInputIf result quiet input from to = (outside : List Outside) × IsWithTime input outside × TakesIf result quiet outside from to

-- an input was submitted, and waits, or the network refuses it
abbrev pub SubmitsIf : {T : Type 0} → Result T NetworkRunFault → Bool → NetworkInput → Option Waiting → Moment → Moment → Type 0
SubmitsIf result quiet input waiting from to = (outside : List Outside) × IsWithTime input outside
    × MatchResult result (λ _. Stopped quiet outside (outside_waiting waiting) to.due from to) (λ fault. Faulted quiet outside fault from to)

-- the sink's failure count before and after
abbrev pub CountsFaults : {T : Type 0} → Result T NetworkRunFault → ℕ → ℕ → Type 0
CountsFaults result old new = MatchResult result (λ _. new ≡ old) (λ fault. new ≡ (if is_write fault then old + 1 else old))

-- the inputs of a script, and how it ends
abbrev pub Reading : Type 0
Reading = List NetworkInput × End

-- this comes with these inputs
pub record ComesWith (inputs : List NetworkInput) (outside : List Outside) : Type 0 where
  pub given : inputs ≡ givens outside
  pub in_turn : AreInTurn outside

-- some of what comes with these inputs came, and then there was a fault
pub record RunFaulted (quiet : Bool) (inputs : List NetworkInput) (fault : NetworkRunFault) (from to : Moment) : Type 0 where
  pub outside : List Outside
  pub comes : ComesWith inputs outside
  pub faulted : Faulted quiet outside fault from to

-- or the run on this script came to its end
pub record Ends (quiet : Bool) (script : Reading) (end : End) (from to : Moment) : Type 0 where
  pub outside : List Outside
  pub comes : ComesWith script.0 outside
  pub left : List Outside
  pub can : CanEnd to.net left script.1 end
  pub stopped : Stopped quiet outside left to.due from to

abbrev pub RunsIf : Result End NetworkRunFault → Bool → Reading → Moment → Moment → Type 0
RunsIf result quiet script from to =
    MatchResult result (λ end. Ends quiet script end from to) (λ fault. RunFaulted quiet script.0 fault from to)

-- some inputs of a script were executed, and the later lines say the others; more may come in turn
pub record HasCome (quiet : Bool) (script later : Reading) (from here : Moment) : Type 0 where
  pub earlier : List Outside
  pub inputs : script.0 ≡ givens earlier ++ later.0
  pub in_turn : (more : List Outside) → AreInTurn more → AreInTurn (earlier ++ more)
  pub ends : script.1 ≡ later.1
  pub went : Went quiet earlier from here

-- after a line the run goes on with those after it, or ends
abbrev pub LineEnds : Option End → Bool → Reading → Reading → Moment → Moment → Type 0
LineEnds None quiet script later from to = HasCome quiet script later from to
LineEnds (Some end) quiet script later from to = Ends quiet script end from to

abbrev pub LineRuns : Result (Option End) NetworkRunFault → Bool → Reading → Reading → Moment → Moment → Type 0
LineRuns result quiet script later from to =
    MatchResult result (λ ending. LineEnds ending quiet script later from to) (λ fault. RunFaulted quiet script.0 fault from to)
