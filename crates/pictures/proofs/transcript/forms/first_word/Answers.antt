use Rattle.std.proofs.Common.{◌==◌, Some, None, arith}
use Rattle.std.proofs.lemmas.List.Splits.{slice_split_first}
use Rattle.std.proofs.lemmas.Str.Pattern.{split_once_first, split_parts}
use Rattle.pictures.proofs.WordForms.{one_word}
use Rattle.pictures.proofs.transcript.forms.first_word.Goals as goal

pub returns-in-Some-clause-first : goal.returns-in-Some-clause-first
returns-in-Some-clause-first c =
    let cut = split_once_first 32 c.args.text.now (Some (c.in-Some.word, c.in-Some.rest)) c.in-Some.ensures.cases (omega arith) in
    rw (cut.1, cut.2) (slice_split_first (λ byte. byte == 32) c.args.text.now 0 cut.0)

pub returns-in-None-clause-first : goal.returns-in-None-clause-first
returns-in-None-clause-first c = one_word c.args.text.now (split_parts 32 c.args.text.now None c.in-None.ensures.cases (omega arith))
