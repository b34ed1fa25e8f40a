use Rattle.std.proofs.Common.{◌≡◌, ◌∙◌, ◌==◌, ◌&&◌, ◌++◌, ◌∷◌, ℕ, suc, Bool, true, false, not, List, [], length, ap, refl, arith}
use Rattle.std.proofs.lemmas.Bool.Decides.{nat_tests}
use Rattle.std.proofs.lemmas.Result.{IfOk-weaker}
use Rattle.std.specs.Borrow.{Bor}
use Rattle.clap.specs.Adds.{AddsConflicts}
use Rattle.clap.specs.Walk.{Rule, Text, is_free_arg, rule_of}
use Rattle.clap.specs.declared.builder.arg.Arg.{Arg}
use Rattle.mote_picture.proofs.options.page_flag.Goals as goal

not_free : (exclusive empty others : Bool) → empty ≡ false → (not exclusive && (empty && others)) ≡ false
not_free true empty others is = refl
not_free false empty others is = rw is refl

not_zero : (n : ℕ) → (suc n == 0) ≡ false
not_zero n = grind (arith, nat_tests)

some : (before : List (Bor Text)) (other : Bor Text) → (length (before ++ other ∷ []) == 0) ≡ false
some [] other = refl
some (first ∷ before) other = not_zero (length (before ++ other ∷ []))

conflicting : (old new : Arg) (other : Bor Text) → AddsConflicts old new (other ∷ []) → is_free_arg new ≡ false
conflicting old new other adds = not_free new.exclusive _ _ (ap (λ items. length items == 0) adds.1 ∙ some old.conflicts.items other)

rule_with : (old new : Arg) (other : Bor Text) → AddsConflicts old new (other ∷ []) → rule_of new ≡ record (rule_of old) { is_free = false }
rule_with old new other adds =
    ap (λ is. record (rule_of new) { is_free = is }) (conflicting old new other adds)
    ∙ ap (λ (arg : Arg). record (rule_of arg) { is_free = false }) adds.0

pub returns-clause-rule : goal.returns-clause-rule
returns-clause-rule c =
    IfOk-weaker c.conflicts_with.result _ _ (λ page adds. rule_with c.flag.result page _ adds
    ∙ ap (λ (rule : Rule). record rule { is_free = false }) c.flag.ensures.rule) c.conflicts_with.ensures

pub returns-clause-local : goal.returns-clause-local
returns-clause-local c =
    IfOk-weaker c.conflicts_with.result _ _ (λ page adds. ap (λ (arg : Arg). arg.global) adds.0 ∙ c.flag.ensures.local)
    c.conflicts_with.ensures
