use Rattle.std.proofs.Common.{◌∙◌, ◌<◌, length, refl, rules}
use Rattle.pictures.specs.declared.facts.waiting.Posted.{Posted}
use Rattle.pictures.specs.declared.facts.waiting.Wait.{Wait}
use Rattle.pictures.proofs.Waits.{one_moved}
use Rattle.pictures.proofs.facts.waiting.Queue.end_first.Goals as goal

pub returns : goal.returns
returns c =
    let some : 0 < length c.self.inside.posted.items = search rules in
    one_moved {W = Wait} {P = Posted} (λ wait. wait.line) (λ event. event.line) c.self.inside.waits.items _ _ c.self.inside.posted.items _
    c.remove-event.result some c.in_ok-push.ensures.items c.remove-event.ensures.items c.remove-event.ensures.value refl
    ∙ c.self.view_is
