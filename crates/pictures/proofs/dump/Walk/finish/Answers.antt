use Rattle.std.proofs.lemmas.Result.{IfOk-weaker}
use Rattle.pictures.proofs.Written.{gone_keeps}
use Rattle.pictures.proofs.dump.Walk.finish.Goals as goal

pub returns-clause-keeps : goal.returns-clause-keeps
returns-clause-keeps c =
    IfOk-weaker c.go_to.result _ _
    (λ _ values value earlier before has.
    rw values (gone_keeps c.rest.new.self.dump _ value earlier (c.in_ok-rest.ensures.writes.keeps value earlier before has)))
    c.go_to.ensures.values
