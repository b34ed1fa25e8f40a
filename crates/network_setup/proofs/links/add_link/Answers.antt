use Rattle.std.proofs.Common.{◌≡◌, ◌-◌, [], ◌∷◌, ◌++◌, length, true, arith, rules}
use Rattle.medium_core.specs.declared.link.Fate.{Fate}
use Rattle.network_setup.proofs.Linking.{one_added}
use Rattle.network_setup.specs.Setting.{is_fit}
use Rattle.network_setup.proofs.links.add_link.Goals as goal

pub returns-in-Ok : goal.returns-in-Ok
returns-in-Ok c =
    let fit : is_fit (length c.args.links.now) c.args.from c.args.to c.args.carriage ≡ true = search rules in
    let more : c.push.new.self.items ≡ c.index-links-from.result.items
    ++ record { to = c.args.to - 1; delay = c.args.carriage.delay; loss = c.args.carriage.loss; last = Fate.Unused } ∷ [] =
    cc (c.in-Ok.ensures.items, c.new-link.ensures, c.index-links-from.is) in
    one_added c.args.links.now c.args.from c.args.to c.args.carriage c.index-links-from.result c.push.new.self fit (omega arith)
    c.index-links-from.is more
