-- The order of continuations on the stack, which keeps it short.
--
-- Every continuation is an application's, which either waits for a reply (Answer) or is on its way out (Leave), and no application
-- has two continuations of one kind. So with n applications there are at most 2 * n continuations.
use Rattle.std.specs.Prelude.{◌≡◌, ℕ, Bool, true, false, List, [], ◌∷◌, flat_map, Option, IfSome, eqb}
use Rattle.std.specs.List.{list_any}
use Rattle.mote_types.specs.declared.event.Pid.{Pid}
use Rattle.process_core.specs.declared.process.Process.{Process}
use Rattle.process_core.specs.declared.state.State.{State}
use Rattle.process_core.specs.declared.open_work.Continuation.{Continuation}
use Rattle.process_core.specs.Processes.{state_of}
use Rattle.process_core.specs.Code.Invariant.{IsOfMote}
use Rattle.process_core.specs.Code.Invariant.{is_in_activation}

abbrev pub is_one_of : ℕ → List ℕ → Bool
is_one_of p ps = list_any (eqb p) ps

abbrev pub answering_in : Continuation → List ℕ
answering_in (Continuation.Answer pid) = pid.0 ∷ []
answering_in _ = []

abbrev pub leaving_in : Continuation → List ℕ
leaving_in (Continuation.Leave pid walk exits) = pid.0 ∷ []
leaving_in _ = []

-- the processes that wait for a reply
abbrev pub answering : List Continuation → List ℕ
answering stack = flat_map answering_in stack

-- the processes that are on their way out
abbrev pub leaving : List Continuation → List ℕ
leaving stack = flat_map leaving_in stack

-- what a continuation may be above
abbrev pub NestsOn : Continuation → List Continuation → Type 0
-- a process waits for one reply at a time
NestsOn (Continuation.Answer pid) below = is_one_of pid.0 (answering below) ≡ false
-- it begins to leave when its activation is over, and leaves once
NestsOn (Continuation.Leave pid walk exits) below = (is_one_of pid.0 (answering below) ≡ false) × (is_one_of pid.0 (leaving below) ≡ false)

-- each continuation may be above those below it
abbrev pub IsNested : List Continuation → Type 0
IsNested [] = Unit {0}
IsNested (continuation ∷ below) = NestsOn continuation below × IsNested below

-- whether a process is on its way out
abbrev pub has_ended : State → Bool
has_ended State.Leaving = true
has_ended State.Ending = true
has_ended _ = false

-- each of these processes is in such a state
abbrev pub AreIn : (State → Bool) → List Process → List ℕ → Type 0
AreIn test processes ps = (p : ℕ) → is_one_of p ps ≡ true → test (state_of p processes) ≡ true

-- a process at turn is in its activation, and waits for no reply
pub record IsAtTurn (processes : List Process) (stack : List Continuation) (p : ℕ) : Type 0 where
  pub active : is_in_activation (state_of p processes) ≡ true
  pub apart : is_one_of p (answering stack) ≡ false

-- the continuations, the process list and the process that is at turn or gets a reply next fit together
pub record IsSound (applications : ℕ) (processes : List Process) (stack : List Continuation) (turn : Option Pid) : Type 0 where
  pub mote : IsOfMote applications processes
  pub nested : IsNested stack
  pub answers : AreIn is_in_activation processes (answering stack)
  pub leaves : AreIn has_ended processes (leaving stack)
  pub at_turn : IfSome turn (λ p. IsAtTurn processes stack p.0)
