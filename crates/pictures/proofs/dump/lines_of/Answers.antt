use Rattle.std.proofs.Common.{◌∙◌, ◌-◌, ◌+◌, ℕ, List, [], take, drop, refl, sym, ap}
use Rattle.std.proofs.lemmas.List.{get_or-drop, get_or-take}
use denote.Ref.{Bor}
use Rattle.pictures.proofs.Again.{text_is}
use Rattle.pictures.proofs.dump.lines_of.Goals as goal

pub returns-clause-lines : goal.returns-clause-lines
returns-clause-lines c = λ index inside.
    let lines = c.args.lines.now in
    let first = c.args.shown.first in
    let count = c.args.shown.end - first in
    let none : Bor (List ℕ) = record { ref_ptr = (0, 0); now = [] } in
    text_is (take count (drop first lines)) index none refl
    ∙ ap (λ line. line.now) (get_or-take count (drop first lines) index none inside ∙ get_or-drop first lines index none)
    ∙ sym (text_is lines (first + index) none refl)
