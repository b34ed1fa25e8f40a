use Rattle.std.proofs.Common.{All, subst, arith}
use Rattle.std.proofs.lemmas.List.{take_all}
use Rattle.std.proofs.lemmas.List.Elements.{All-more}
use Rattle.pictures.specs.Transcript.Quiet.{MayStay}
use Rattle.pictures.proofs.transcript.quiet.may_all_stay.Goals as goal

pub loop-line-preserved : goal.loop-line-preserved
loop-line-preserved c =
    All-more (λ line. MayStay line.now) c.args.lines.now c.loop-line.line-index _ c.loop-line-test.true c.loop-line.invariant
    c.if-not-may_stay.ensures.stays

pub returns-clause-stay : goal.returns-clause-stay
returns-clause-stay c =
    subst (All (λ line. MayStay line.now)) (take_all c.loop-line.line-index c.args.lines.now (omega arith)) c.loop-line.invariant

pub returns-then-not-may_stay-clause-goes : goal.returns-then-not-may_stay-clause-goes
returns-then-not-may_stay-clause-goes c = λ all. c.if-not-may_stay.ensures.goes (all c.loop-line.line-index _ c.loop-line-test.true)
