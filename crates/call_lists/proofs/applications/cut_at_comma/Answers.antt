use Rattle.std.proofs.Common.{codes, None, refl, arith}
use Rattle.std.proofs.lemmas.Str.Pattern.{split_text_parts}
use Rattle.call_lists.proofs.Only.{first_at}
use Rattle.call_lists.proofs.applications.cut_at_comma.Goals as goal

pub returns-in-Some-clause-first : goal.returns-in-Some-clause-first
returns-in-Some-clause-first c =
    λ front rest is.
    let cut = c.in-Some.ensures.cases in
    (omega (arith, first_at c.args.text.now (codes ", ") cut.0 cut.2.0 front rest is), refl)

pub returns-in-None-clause-first : goal.returns-in-None-clause-first
returns-in-None-clause-first c = λ front rest is.
    absurd (split_text_parts (codes ", ") c.args.text.now None c.in-None.ensures.cases front rest is)
