use Rattle.std.proofs.Common.{◌∙◌, ap, arith, refl}
use Rattle.std.proofs.lemmas.Result.{IfOk-weaker}
use Rattle.pictures.specs.Dump.{gone_to}
use Rattle.pictures.proofs.Written.{first_set, writes_one}
use Rattle.pictures.proofs.dump.Walk.write.Goals as goal

pub returns-clause-writes : goal.returns-clause-writes
returns-clause-writes c =
    let old = c.args.self.now in
    IfOk-weaker c.set.result _ _
    (λ _ whole.
    writes_one old _ c.requires c.go_to.new.self c.args.index c.value-value.result
    (c.in_ok-go_to.ensures.values
    ∙ ap (gone_to old.dump) (omega (arith, c.saturating_mul-time.ensures, c.saturating_add.ensures)))
    c.set.ensures.before whole (first_set old.written c.args.index c.value-value.result c.value-value.result (omega arith) (λ _. refl)))
    c.set.ensures.values
