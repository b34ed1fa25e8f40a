use Rattle.std.proofs.Common.{refl, arith}
use Rattle.std.proofs.lemmas.List.{nil_from_length}
use Rattle.std.proofs.lemmas.Result.{MatchResult-weaker}
use Rattle.mote_run.proofs.Common.{nat_tests}
use Rattle.mote_run.proofs.refill.refill.Goals as goal

pub returns-clause-taken : goal.returns-clause-taken
returns-clause-taken g c =
    MatchResult-weaker c.read.result c.read.ensures.taken
    (λ _ taken. (c.read.new.self, taken, rw (nil_from_length c.args.piece.now (grind (arith, nat_tests))) refl)) (λ _ _. tt)
