use Rattle.std.proofs.Common.{◌∙◌, ◌∷◌, Some, None, refl, sym, ap, arith}
use Rattle.std.proofs.lemmas.Str.Pattern.{split_parts}
use Rattle.call_lists.specs.Code.Readings.{behind_first}
use Rattle.call_lists.proofs.Cuts.{cut_of_free, whole_word}
use Rattle.call_lists.proofs.words.parted.Goals as goal

pub returns-in-Some-clause-word : goal.returns-in-Some-clause-word
returns-in-Some-clause-word c =
    grind (arith, cut_of_free, split_parts 32 c.args.text.now (Some (c.in-Some.word, c.in-Some.rest)) c.in-Some.ensures.cases (omega arith))

pub returns-in-Some-clause-left : goal.returns-in-Some-clause-left
returns-in-Some-clause-left c =
    let parts = split_parts 32 c.args.text.now (Some (c.in-Some.word, c.in-Some.rest)) c.in-Some.ensures.cases (omega arith) in
    sym (ap behind_first parts.0 ∙ (cut_of_free c.in-Some.word.now (32 ∷ c.in-Some.rest.now) parts.1 refl).1)

pub returns-in-None-clause-word : goal.returns-in-None-clause-word
returns-in-None-clause-word c =
    sym (whole_word c.args.text.now (split_parts 32 c.args.text.now None c.in-None.ensures.cases (omega arith))).0

pub returns-in-None-clause-left : goal.returns-in-None-clause-left
returns-in-None-clause-left c =
    sym (whole_word c.args.text.now (split_parts 32 c.args.text.now None c.in-None.ensures.cases (omega arith))).1
