use Rattle.library_core.proofs.Parts.{first_part, only_part}
use Rattle.library_core.proofs.list_reason.cut_at_comma.Goals as goal

pub returns-in-Some-clause-one : goal.returns-in-Some-clause-one
returns-in-Some-clause-one c =
    let cut = c.in-Some.ensures.cases in
    first_part c.args.text.now c.in-Some.part.now cut.0 cut.1 cut.2 cut.3 cut.6

pub returns-in-None-clause-one : goal.returns-in-None-clause-one
returns-in-None-clause-one c = only_part c.args.text.now c.in-None.ensures.cases
