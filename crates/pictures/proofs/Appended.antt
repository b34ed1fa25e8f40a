-- Appended text.
use Rattle.std.proofs.Common.{◌≡◌, ◌∙◌, ◌++◌, List, ℕ, Result, Ok, Err, IfOk, is_ok, if◌then◌else◌, append_assoc, ap}
use Rattle.std.specs.List.{before_first}
use Rattle.pictures.specs.Words.{call_by, is_space, last_words}

pub appended : {T E : Type 0} (r : Result T E) (old more new : List ℕ) → new ≡ (if is_ok r then old ++ more else old)
    → IfOk r (λ _. new ≡ old ++ more)
appended (Ok x) old more new is = is
appended (Err e) old more new is = tt

-- a call's last word, after the words before it
pub call_appended : (old front between new name last : List ℕ) → between ≡ old ++ front → name ≡ before_first is_space front
    → new ≡ between ++ last_words name last
    → new ≡ old ++ call_by front last
call_appended old front between new name last begun named is =
    is ∙ ap (λ text. text ++ last_words name last) begun ∙ append_assoc old front (last_words name last)
    ∙ ap (λ word. old ++ (front ++ last_words word last)) named
