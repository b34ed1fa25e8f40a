use Rattle.std.proofs.Common.{◌≡◌, ℕ, ◌-◌, take, drop, zero, subst, sym, ap, arith}
use Rattle.medium_core.specs.declared.flight.Flight.{Flight}
use Rattle.medium_core.proofs.Placing.{AreEarly, AreLater, early_to, placed}
use Rattle.medium_core.proofs.flights.position_after.Goals as goal

pub returns-then-index-due-clause-position : goal.returns-then-index-due-clause-position
returns-then-index-due-clause-position c flight e =
    let early = early_to c.args.due c.args.queue.now.items c.loop-at.at (c.loop-at.at - 1) c.index.result.now (omega (arith, c.loop-at-test.true))
    c.requires (omega (arith, c.loop-at-test.true, c.loop-at.invariant.bound))
    (omega (arith, ap (λ (f : Flight). f.due) c.index.ensures, c.if-index-due.true)) in
    placed flight c.args.queue.now.items c.loop-at.at
    (subst (λ (n : ℕ). AreEarly n (take c.loop-at.at c.args.queue.now.items)) (sym e) early)
    (subst (λ (n : ℕ). AreLater n (drop c.loop-at.at c.args.queue.now.items)) (sym e) c.loop-at.invariant.later)

pub returns-clause-position : goal.returns-clause-position
returns-clause-position c flight e =
    let none : c.loop-at.at ≡ 0 = omega (arith, c.loop-at-test.false) in
    placed flight c.args.queue.now.items zero tt
    (subst (λ (n : ℕ). AreLater n c.args.queue.now.items) (sym e)
    (subst (λ (n : ℕ). AreLater c.args.due (drop n c.args.queue.now.items)) none c.loop-at.invariant.later))
