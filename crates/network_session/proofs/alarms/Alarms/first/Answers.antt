use Rattle.std.proofs.Common.{◌≤◌, ap, sym, ◌∙◌, refl, arith, Some}
use Rattle.network_session.specs.declared.alarm.Alarm.{Alarm}
use Rattle.network_session.specs.Alarms.{first_alarm}
use Rattle.network_session.proofs.Root.{read, root_first}
use Rattle.network_session.proofs.alarms.Alarms.first.Goals as goal

pub returns-else-self-eq0 : goal.returns-else-self-eq0
returns-else-self-eq0 c =
    let t = c.self.invariant in
    let some : 1 ≤ c.self.inside.count = omega (arith, c.if-self-eq0.false) in
    ap (λ (a : Alarm). Some a) (read c.self.inside.nodes.items _ 1 c.index.result.now c.index.ensures refl (omega (arith, t.size, some)))
    ∙ (sym (root_first c.self.inside.count c.self.inside.nodes.items t some) ∙ ap (first_alarm 0) c.self.view_is)
