use Rattle.std.proofs.Common.{◌≡◌, drop}
use Rattle.pictures.specs.Transcript.Code.{words_in}
use Rattle.pictures.specs.Transcript.Turns.{have_forms}
use Rattle.pictures.proofs.transcript.forms.have_forms.Given as goal

-- the remaining words have the remaining forms exactly if all words have all forms
abbrev pub invariant-loop-form : goal.invariant-loop-form
invariant-loop-form l = have_forms (drop l.form-index l.forms) (words_in l.left) ≡ have_forms l.forms (words_in l.initial.left)
