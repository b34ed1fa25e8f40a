-- The result of a run as that of a mote, and the result of no run.
use Rattle.std.proofs.Common.{arith, ◌≡◌, ℕ, Bool, List, ap, sym, append-nil, Result, Ok, Err, IsErr, IsErrOf, []}
use Rattle.std.specs.Result.{IsErrAnd, MatchResult}
use Rattle.mote_run.proofs.Common.{Applications, End, Config, RunFault, Exchange, Exchanged, HasRunTo, RunPromise}
use Rattle.mote_run.specs.Code.Runs.{OfRun}
use Rattle.mote_types.specs.declared.fault.MoteFault.{MoteFault}

-- a further property of what was read and written
pub holding : {taken_old taken_new : List ℕ} {is_ended : Bool} {given_old given_new : List ℕ} {P Q : Exchange → Type 0}
    → (x : Exchanged taken_old taken_new is_ended given_old given_new P)
    → Q (record { read = x.read; is_ended = is_ended; written = x.written }) → Exchanged taken_old taken_new is_ended given_old given_new Q
holding x holds = grind arith

-- a run's fault as a mote's
abbrev pub of_mote : Result End RunFault → Result End MoteFault
of_mote (Ok end) = Ok end
of_mote (Err fault) = Err (MoteFault.Run fault)

pub is_of_mote : (ran : Result End RunFault) (result : Result End MoteFault)
    → MatchResult ran (λ end. result ≡ Ok end) (λ fault. IsErrAnd result (λ found. found ≡ MoteFault.Run fault)) → result ≡ of_mote ran
is_of_mote (Ok end) result is = is
is_of_mote (Err fault) (Ok end) is = absurd is
is_of_mote (Err fault) (Err found) is = ap Err is

pub of_run : (P : Result End RunFault → Type 0) (ran : Result End RunFault) → P ran → OfRun (of_mote ran) P
of_run P (Ok end) held = held
of_run P (Err fault) held = held

module _ {config : Config} {says : Applications} {quiet : Bool} {taken_old taken_new : List ℕ} {is_ended : Bool}
    {given_old given_new : List ℕ} where
  pub handed_on : (ran : Result End RunFault) → Exchanged taken_old taken_new is_ended given_old given_new (RunPromise config says quiet ran) →
      Exchanged taken_old taken_new is_ended given_old given_new (HasRunTo config says quiet (MoteFault.Run RunFault.Read) (of_mote ran))
  handed_on (Ok end) x = grind arith
  handed_on (Err fault) x = grind arith

-- reading and writing nothing is a prefix of each run
pub nothing_ran : {config : Config} {says : Applications} {quiet : Bool} {taken given : List ℕ} {is_ended : Bool} {Fault : Type 0}
    {failed : Fault} (answer : Result End Fault) →
    IsErr answer → (IsErrOf answer failed → ⊥) → Exchanged taken taken is_ended given given (HasRunTo config says quiet failed answer)
nothing_ran {taken = taken} {given = given} answer is_err other = record {
  read = [];
  written = [];
  taken = sym (append-nil taken);
  given = sym (append-nil given);
  holds = grind arith;
}
