use Rattle.std.proofs.Common.{◌≡◌, ◌∙◌, All, IfOk, ap, subst}
use Rattle.pictures.specs.Rows.{bytes_of}
use Rattle.mote_picture.specs.Reading.{IsLine, parts_of}
use Rattle.mote_picture.proofs.reading.lines_of.Goals as goal

pub returns-clause-read : goal.returns-clause-read
returns-clause-read c =
    let same : bytes_of c.as_slice.result.now ≡ parts_of c.args.bytes.now = ap bytes_of c.as_slice.ensures.value ∙ c.in_ok-parts.ensures in
    subst (λ parts. IfOk c.texts_of.result (λ _. All IsLine parts)) same c.texts_of.ensures.read
