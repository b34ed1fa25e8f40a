-- How text is written that is buffered first, and written in pieces.
use Rattle.std.specs.Prelude.{◌≡◌, ◌+◌, ℕ, List, ◌++◌, Result, MatchResult, OnErr, OnOk}

-- More text came after pending output. A prefix of both was written, and the rest is pending now
pub record WritesOn (given_old pending_old given_new pending_new more : List ℕ) : Type 0 where
  pub out : List ℕ
  pub given : given_new ≡ given_old ++ out
  pub parted : pending_old ++ more ≡ out ++ pending_new

-- where writing failed, some of it is lost
abbrev pub WritesIf : {T E : Type 0} → Result T E → List ℕ → List ℕ → List ℕ → List ℕ → List ℕ → Type 0
WritesIf result given_old pending_old given_new pending_new more =
    MatchResult result (λ _. WritesOn given_old pending_old given_new pending_new more)
    (λ _. (lost : List ℕ) × WritesOn given_old pending_old given_new lost more)

-- the sink's failure count before and after: one write failed if the result is an error, otherwise none
abbrev pub CountsFailure : {T E : Type 0} → Result T E → ℕ → ℕ → Type 0
CountsFailure result old new = OnOk result (new ≡ old) × OnErr result (new ≡ old + 1)
