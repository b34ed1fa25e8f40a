use Rattle.std.proofs.Common.{◌≡◌, ◌∙◌, List, ℕ, ◌++◌, inl, inr, ap, sym, Option, Some, None, MatchOption, IfNone, IfSome, codes}
use Rattle.std.specs.Str.Pattern.{FindsTextPrefix, StripsPrefix}
use denote.Ref.{Bor}
use Rattle.library_core.specs.Reasons.{HasCalls, HasNoCalls}
use Rattle.library_core.proofs.lines.calls_in.Goals as goal

-- the rest after the word, if the line begins with it
abbrev IsLeft : List ℕ → Option (Bor (List ℕ)) → Type 0
IsLeft line o =
    MatchOption o (FindsTextPrefix (codes "calls ") line None) (λ x. StripsPrefix (FindsTextPrefix (codes "calls ")) line x.now)

has : (line : List ℕ) (o : Option (Bor (List ℕ))) → IsLeft line o → IfSome o (λ x. HasCalls line x.now)
has line None h = tt
has line (Some x) h = inr (h.1.1 ∙ ap (λ rest. codes "calls " ++ rest) (sym h.2))

-- without a rest the line has no calls: it is not the word alone
has_none : (line : List ℕ) (o : Option (Bor (List ℕ))) → (line ≡ codes "calls" → ⊥) → IsLeft line o → IfNone o (HasNoCalls line)
has_none line (Some x) other h = tt
has_none line None other h = lacks where
  lacks : HasNoCalls line
  lacks text (inl only) = other only.0
  lacks text (inr behind) = h text behind

pub returns-clause-has : goal.returns-clause-has
returns-clause-has c = has c.args.line.now c.strip_prefix.result c.strip_prefix.ensures.cases

pub returns-clause-has_none : goal.returns-clause-has_none
returns-clause-has_none c =
    has_none c.args.line.now c.strip_prefix.result (λ is. let same = rw is at c.eq.ensures in absurd (cc)) c.strip_prefix.ensures.cases
