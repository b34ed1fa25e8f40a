use Rattle.std.proofs.Common.{◌≡◌, ◌∙◌, [], None, sym, rules, arith}
use Rattle.std.proofs.lemmas.List.{at_drop_all, at_drop_more}
use Rattle.pictures.specs.declared.transcript.forms.Form.{Form}
use Rattle.pictures.specs.Transcript.Code.{words_in}
use Rattle.pictures.specs.Transcript.Turns as turns
use Rattle.pictures.proofs.WordForms.{none_left}
use Rattle.pictures.proofs.transcript.forms.have_forms.Goals as goal

pub returns-in_default : goal.returns-in_default
returns-in_default c =
    let none : c.loop-form.left ≡ None = search rules in
    sym (at_drop_more (λ forms. turns.have_forms forms []) c.args.forms.now c.loop-form.form-index Form.Flag (omega arith))
    ∙ (rw none at c.loop-form.invariant)

pub returns : goal.returns
returns c =
    search rules
    ∙ sym
    (at_drop_all (λ forms. turns.have_forms forms (words_in c.loop-form.left)) c.args.forms.now c.loop-form.form-index (omega arith)
    ∙ none_left c.loop-form.left)
    ∙ c.loop-form.invariant
