use Rattle.std.proofs.Common.{◌≡◌, ◌∙◌, ◌++◌, codes, sym, ap, subst}
use Rattle.pictures.specs.Transcript.Forms.{Says}
use Rattle.pictures.proofs.Says.{no_input, no_line, no_note}
use Rattle.pictures.proofs.transcript.line.read_line.Goals as goal

pub returns-in_err-read_input-clause-none : goal.returns-in_err-read_input-clause-none
returns-in_err-read_input-clause-none c = rw c.from_residual.ensures (λ read says.
    let cut = c.in-Some.ensures.cases in
    let same : c.args.line.now ≡ codes "> " ++ c.in-Some.text.now = cut.1.1 ∙ ap (λ rest. codes "> " ++ rest) (sym cut.2) in
    no_input c.in-Some.text.now (sym c.in_err-read_input.ensures.whole) read (subst (λ line. Says line read) same says))

pub returns-in_err-read_note-clause-none : goal.returns-in_err-read_note-clause-none
returns-in_err-read_note-clause-none c = rw c.from_residual-in_err-read_note.ensures (λ read says.
    let cut = c.in-Some-strip_prefix.ensures.cases in
    let same : c.args.line.now ≡ codes "note " ++ c.in-Some-strip_prefix.text.now =
    cut.1.1 ∙ ap (λ rest. codes "note " ++ rest) (sym cut.2) in
    no_note c.in-Some-strip_prefix.text.now (sym c.in_err-read_note.ensures.whole) read (subst (λ line. Says line read) same says))

pub returns-in_err-read_ending-in-None-clause-none : goal.returns-in_err-read_ending-in-None-clause-none
returns-in_err-read_ending-in-None-clause-none c =
    rw c.from_residual-in_err-read_ending-in-None.ensures
    (no_line c.args.line.now c.in_default.ensures.cases c.in_default-strip_prefix.ensures.cases c.in-None.ensures.none
    c.in_err-read_ending-in-None.ensures.whole)
