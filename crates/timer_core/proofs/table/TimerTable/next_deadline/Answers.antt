use Rattle.timer_core.proofs.Lemmas.{◌≡◌, ◌∙◌, ap, sym, refl, arith, ℕ, Some, None, deadline_at, listed_from_none, next_at, passes_at, at_below, timer_at, timers_of}
use Rattle.std.proofs.Common.{Option}
use Rattle.timer_core.specs.Code.Links.{listed_from, next_of}
use Rattle.timer_core.specs.Code.Earliest.{earliest_with}
use Rattle.timer_core.specs.Deadlines.{earliest_of, earlier_of}
use Rattle.timer_core.proofs.table.TimerTable.next_deadline.Goals as goal

all_known : (o : Option ℕ) → earliest_with o None ≡ o
all_known None = refl
all_known (Some m) = refl

one_more : (o : Option ℕ) (d : ℕ) (later : Option ℕ) → earliest_with (Some (earlier_of d o)) later ≡ earliest_with o
    (Some (earlier_of d later))
one_more o d later = grind arith

pub bounds-self-inside-slot : goal.bounds-self-inside-slot
bounds-self-inside-slot c = at_below c.in-Some.slot (passes_at c.in-Some.is c.loop-link.invariant.list).named

pub deadline-requires : goal.deadline-requires
deadline-requires c =
    grind (arith, passes_at c.in-Some.is c.loop-link.invariant.list)

pub loop-link-smaller : goal.loop-link-smaller
loop-link-smaller c =
    grind (arith, passes_at c.in-Some.is c.loop-link.invariant.list)

pub loop-link-preserved : goal.loop-link-preserved
loop-link-preserved c =
    let h = c.loop-link.invariant in
    let cells = c.self.inside.cells in
    let timers = timers_of c.self.inside in
    let step = passes_at c.in-Some.is h.list in
    let next = next_at cells c.in-Some.slot step.named in
    let rest = earliest_of timers (listed_from cells (next_of cells (timer_at c.in-Some.slot))) in
    let known =
    ap (earliest_of timers) step.listed ∙ ap (λ (m : ℕ). Some (earlier_of m rest))
    (deadline_at c.self.inside c.in-Some.slot step.named ∙ sym c.deadline.ensures) in
    record {
      list = rw next at step.later;
      known =
          rw (← next, c.sooner.ensures) (one_more c.loop-link.earliest c.deadline.result rest
          ∙ (ap (earliest_with c.loop-link.earliest) (sym known) ∙ h.known));
    }

pub returns : goal.returns
returns c = grind (arith, listed_from_none)
