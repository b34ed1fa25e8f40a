-- The applications of many motes as functions.
use Rattle.std.specs.Prelude.{◌≡◌, ℕ, ◌==◌, ◌&&◌, false, List, [], ◌∷◌, Option, Some}
use Rattle.mote_types.specs.Applications.{Applications}
use Rattle.mote_types.specs.declared.call.Call.{Call}
use Rattle.mote_types.specs.declared.entry.Entry.{Entry}
use Rattle.mote_types.specs.declared.event.Origin.{Origin}
use Rattle.mote_types.specs.declared.event.Pid.{Pid}
use Rattle.mote_types.specs.declared.event.Stimulus.{Stimulus}

-- the applications of each mote
abbrev pub Voices : Type 0
Voices = ℕ → Applications

-- application p of mote m received this stimulus, and made this call; from then on it says what it would have said after that
pub record IsCall (m p : ℕ) (stimulus : Stimulus) (call : Call) (old new : Voices) : Type 0 where
  pub made : old m p (stimulus ∷ []) ≡ call
  pub law : (next : Stimulus) (later : List Stimulus) → new m p (next ∷ later) ≡ old m p (stimulus ∷ next ∷ later)
  pub others : (n q : ℕ) → (n == m && q == p) ≡ false → (next : Stimulus) (later : List Stimulus) →
      new n q (next ∷ later) ≡ old n q (next ∷ later)

-- the last entry of mote m is a turn, and its call is the application's
pub record SpokeLast (m : ℕ) (last : Option Entry) (old new : Voices) : Type 0 where
  pub process : Pid
  pub origin : Origin
  pub stimulus : Stimulus
  pub call : Call
  pub is_last : last ≡ Some (Entry.Turn process origin stimulus call)
  pub is_call : IsCall m process.0 stimulus call old new
