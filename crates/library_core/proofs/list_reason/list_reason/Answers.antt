use Rattle.std.proofs.Common.{arith}
use Rattle.library_core.proofs.Parts.{counted, none_here, one_more}
use Rattle.library_core.proofs.list_reason.list_reason.Goals as goal

pub overflow_add-index : goal.overflow_add-index
overflow_add-index c =
    let most = counted c.args.text.now c.loop-left.index c.in-Some.parts
    (rw c.in-Some.is at c.loop-left.invariant) in
    omega (arith, most)

pub loop-left-preserved : goal.loop-left-preserved
loop-left-preserved c =
    one_more c.args.text.now c.loop-left.index c.in-Some.parts c.cut_at_comma.result.0.now c.cut_at_comma.result.1
    (rw c.in-Some.is at c.loop-left.invariant) c.cut_at_comma.ensures.parts
    c.in_default-part_reason.ensures.call

pub returns-in-Some-part_reason : goal.returns-in-Some-part_reason
returns-in-Some-part_reason c =
    none_here c.args.text.now c.loop-left.index c.in-Some.parts c.cut_at_comma.result.0.now c.cut_at_comma.result.1
    (rw c.in-Some.is at c.loop-left.invariant) c.cut_at_comma.ensures.parts
    c.in-Some-part_reason.ensures.none
