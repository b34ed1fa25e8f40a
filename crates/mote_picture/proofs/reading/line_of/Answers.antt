use Rattle.std.proofs.Common.{IsUtf8, subst, sym}
use Rattle.pictures.specs.Transcript.Forms.{Says}
use Rattle.mote_picture.proofs.reading.line_of.Goals as goal

pub returns-in_default-clause-none : goal.returns-in_default-clause-none
returns-in_default-clause-none c = λ line. c.in_default.ensures.cases.0 line.0

pub returns-in-Some-clause-read : goal.returns-in-Some-clause-read
returns-in-Some-clause-read c =
    (subst IsUtf8 (sym c.in-Ok.ensures.cases.0) c.in-Ok.ensures.cases.1, (c.in-Some.field-0, c.in-Some.ensures.says))

pub returns-in-None-clause-none : goal.returns-in-None-clause-none
returns-in-None-clause-none c =
    λ line. c.in-None.ensures.none line.1.0 (subst (λ text. Says text line.1.0) (sym c.in-Ok.ensures.cases.0) line.1.1)
