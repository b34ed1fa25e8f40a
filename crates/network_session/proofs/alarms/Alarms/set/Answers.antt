use Rattle.std.proofs.Common.{◌≡◌, ◌<◌, ◌+◌, ℕ, List, length, ap, sym, ◌∙◌, refl, map, set, drop, arith}
use Rattle.std.proofs.lemmas.List.{map-set, set-get_or}
use Rattle.network_session.specs.declared.alarm.Alarm.{Alarm}
use Rattle.network_session.specs.Code.Tournaments.{moments_in}
use Rattle.network_session.proofs.Climbing.{player_set}
use Rattle.network_session.proofs.Root.{read}
use Rattle.network_session.proofs.Rows.{length_moments, moment_at}
use Rattle.network_session.proofs.alarms.Alarms.set.Goals as goal

pub returns-then-index-moment : goal.returns-then-index-moment
returns-then-index-moment c =
    let nodes : List Alarm = c.self.inside.nodes.items in
    let count : ℕ = c.self.inside.count in
    let size = c.self.invariant.size in
    let all = length_moments count nodes size in
    let within : c.args.owner < count = omega (arith, c.requires, ap length c.self.view_is, all) in
    let node = read nodes _ (count + c.args.owner) c.index.result.now c.index.ensures refl (omega (arith, within, size)) in
    let same : c.args.moment ≡ c.index.result.now.moment = omega (arith, c.if-index-moment.true) in
    let moment = same ∙ (ap (λ (a : Alarm). a.moment) node ∙ sym (moment_at count nodes c.args.owner size within)) in
    rw (← c.self.view_is) (sym (ap (set (moments_in count nodes) c.args.owner) moment ∙ set-get_or (moments_in count nodes) c.args.owner 0))

pub returns : goal.returns
returns c =
    let nodes : List Alarm = c.self.inside.nodes.items in
    ap (map (λ (a : Alarm). a.moment)) (c.climb.ensures.players ∙ player_set nodes c.self.inside.count c.args.owner _ _ refl)
    ∙ (map-set (λ (a : Alarm). a.moment) (drop c.self.inside.count nodes) c.args.owner _ ∙ ap (λ (l : List ℕ). set l c.args.owner c.args.moment) c.self.view_is)
