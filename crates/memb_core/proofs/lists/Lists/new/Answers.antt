use Rattle.memb_core.proofs.Lemmas.{◌≡◌, refl, ListName, start_of, None, none_listed, empty_linked}
use Rattle.memb_core.proofs.lists.Lists.new.Goals as goal

no_start : (name : ListName) → start_of name (record { first = None; second = None }) ≡ None
no_start ListName.First = refl
no_start ListName.Second = refl

pub returns-clause-linked : goal.returns-clause-linked
returns-clause-linked c pool bytes few within = empty_linked _ pool bytes no_start few within

pub returns-clause-empty : goal.returns-clause-empty
returns-clause-empty c pool bytes name = none_listed name _ pool bytes (no_start name)
