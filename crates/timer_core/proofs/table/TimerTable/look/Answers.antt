use Rattle.timer_core.proofs.Lemmas.{◌≡◌, true, false, subst, arith, le-leb, lt-leb, Timers, is_due, timer_at, timers_of, named_last, passes_at, walked_after, walked_more, none_of_more, due_here, none_here, at_below, deadline_at, next_at}
use Rattle.timer_core.specs.Code.Outlooks.{IsOutlook}
use Rattle.timer_core.specs.declared.table.Outlook.{Outlook}
use Rattle.timer_core.proofs.table.TimerTable.look.Goals.{then-clock-passed, else-clock-passed}
use Rattle.timer_core.proofs.table.TimerTable.look.Goals as goal

pub bounds-self-inside-last : goal.bounds-self-inside-last
bounds-self-inside-last c = grind (arith, named_last)

pub loop-link-init : goal.loop-link-init
loop-link-init c =
    grind (arith, walked_after)

pub bounds-self-inside-slot : goal.bounds-self-inside-slot
bounds-self-inside-slot c =
    at_below c.in-Some-link.slot (passes_at c.in-Some-link.is c.loop-link.invariant.walked.list).named

pub deadline-deadline-requires : goal.deadline-deadline-requires
deadline-deadline-requires c =
    grind (arith, passes_at c.in-Some-link.is c.loop-link.invariant.walked.list)

pub returns-then-deadline-clock : goal.returns-then-deadline-clock
returns-then-deadline-clock c =
    let h = c.loop-link.invariant in
    let due : is_due c.args.clock (timers_of c.self.inside) (timer_at c.in-Some-link.slot) ≡ true =
    grind (arith, deadline_at, le-leb, passes_at c.in-Some-link.is h.walked.list) in
    subst (λ (v : Timers). IsOutlook c.args.clock v (Outlook.Due c.in-Some-link.slot c.loop-link.passed)) c.self.view_is
    (due_here c.self.inside c.self.invariant c.loop-link.passed c.loop-link.link h.earlier h.walked c.args.clock h.undue h.now
    c.in-Some-link.slot c.in-Some-link.is due)

pub loop-link-smaller : goal.loop-link-smaller
loop-link-smaller c =
    grind (arith, next_at, passes_at c.in-Some-link.is c.loop-link.invariant.walked.list)

pub loop-link-preserved : goal.loop-link-preserved
loop-link-preserved c =
    let h = c.loop-link.invariant in
    let step = passes_at c.in-Some-link.is h.walked.list in
    let undue : is_due c.args.clock (timers_of c.self.inside) (timer_at c.in-Some-link.slot) ≡ false =
    grind (arith, deadline_at, lt-leb) in
    record {
      earlier = _;
      walked = walked_more c.in-Some-link.is h.walked;
      now = grind (arith, none_of_more);
      undue = grind (arith, deadline_at, none_of_more);
    }

pub returns : goal.returns
returns c = grind (arith, none_here)
