use Rattle.timer_core.proofs.Lemmas.{arith, listed_from_none, passes_at, follows_walked, walked_more, none_of_more, at_below, list_any-append}
use Rattle.timer_core.proofs.table.TimerTable.before.Goals as goal

pub returns-then-other-slot : goal.returns-then-other-slot
returns-then-other-slot c = grind (arith, follows_walked)

pub bounds-self-inside-other : goal.bounds-self-inside-other
bounds-self-inside-other c =
    at_below c.in-Some.other (passes_at c.in-Some.is c.loop-link.invariant.walked.list).named

pub loop-link-smaller : goal.loop-link-smaller
loop-link-smaller c =
    grind (arith, passes_at c.in-Some.is c.loop-link.invariant.walked.list)

pub loop-link-preserved : goal.loop-link-preserved
loop-link-preserved c =
    record {
      earlier = _;
      walked = walked_more c.in-Some.is c.loop-link.invariant.walked;
      absent = grind (arith, none_of_more);
    }

pub returns : goal.returns
returns c = grind (arith, listed_from_none, list_any-append)
