use Rattle.std.proofs.Common.{◌∙◌, ap}
use Rattle.pictures.proofs.marks.marks_of.Goals as goal

pub returns-clause-clocks : goal.returns-clause-clocks
returns-clause-clocks c = λ first end covered.
    ap (λ clocks. clocks.items) c.finish-marks.ensures.clocks ∙ c.in_ok-marks.ensures.clocks first end covered
