use Rattle.std.proofs.Common.{refl, rules, subst, sym}
use Rattle.call_lists.specs.RowTexts.{AreCalls, AreOfParts}
use Rattle.call_lists.proofs.Parting.{IsOnward, none_left, one_part_less}
use Rattle.call_lists.proofs.RowParts.{of_text}
use Rattle.call_lists.proofs.rows.reading.steps_of.Goals as goal

pub loop-left-init : goal.loop-left-init
loop-left-init c = λ more are. rw c.new-steps.ensures.items (of_text c.args.text.now more are)

pub loop-left-preserved : goal.loop-left-preserved
loop-left-preserved c =
    let put = c.in_ok-push_part.ensures in
    subst (IsOnward AreOfParts (AreCalls c.args.text.now) c.cut_at_comma.result.1) (sym put.2)
    (one_part_less AreOfParts (AreCalls c.args.text.now) c.cut_at_comma.result.0.now c.cut_at_comma.result.1 c.loop-left.steps.items
    put.0 c.in-Some.is c.cut_at_comma.ensures.parts
    (λ parts more are. (put.0, more, refl, put.1, are)) c.loop-left.invariant)

pub returns : goal.returns
returns c =
    none_left AreOfParts (AreCalls c.args.text.now) c.loop-left.steps.items (search rules) refl c.loop-left.invariant
