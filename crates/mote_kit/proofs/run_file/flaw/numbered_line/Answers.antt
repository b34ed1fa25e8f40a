use Rattle.std.proofs.Common.{◌∙◌, ap, arith}
use Rattle.std.specs.Prelude.{slice_get}
use Rattle.std.specs.List.{slice_split}
use Rattle.std.proofs.lemmas.Iterator.Consumers.{nth_from_yields_List}
use Rattle.std.proofs.lemmas.Iterator.Splits.{YieldsList-from_str_split}
use lib.Dec.{eqb}
use Rattle.mote_kit.proofs.run_file.flaw.numbered_line.Goals as goal

pub returns : goal.returns
returns c =
    let all = YieldsList-from_str_split 10 c.args.text.now (omega arith) c.split.ensures.text c.split.ensures.has_more c.split.ensures.pattern in
    nth_from_yields_List c.nth.result c.nth.new.self _ c.nth.ensures.ran all
    ∙ ap (λ n. slice_get (slice_split (λ b. eqb b 10) c.args.text.now) n) c.saturating_sub.ensures
