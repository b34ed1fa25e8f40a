use Rattle.timer_core.proofs.Lemmas.{subst, sym, timer_at, Some, None, Timers, Follows, stands_unlinked, named_after, at_below}
use Rattle.timer_core.proofs.table.TimerTable.unlink.Goals as goal

pub bounds-self-inside-before : goal.bounds-self-inside-before
bounds-self-inside-before c =
    at_below c.in-Some.before (named_after c.self.inside c.args.slot c.in-Some.before c.self.invariant
    (subst (λ (v : Timers). Follows (Some c.in-Some.before) (timer_at c.args.slot) v.armed)
    (sym c.self.view_is) (rw c.in-Some.is at c.requires.follows)))

pub invariant_of-self : goal.invariant_of-self
invariant_of-self c =
    (stands_unlinked c.self.inside c.args.slot _ c.self.view_is c.self.invariant c.requires.named (Some c.in-Some.before)
    (rw c.in-Some.is at c.requires.follows)).sound

pub returns-in-Some : goal.returns-in-Some
returns-in-Some c =
    (stands_unlinked c.self.inside c.args.slot _ c.self.view_is c.self.invariant c.requires.named (Some c.in-Some.before)
    (rw c.in-Some.is at c.requires.follows)).value

pub invariant_of-self-in-None : goal.invariant_of-self-in-None
invariant_of-self-in-None c =
    (stands_unlinked c.self.inside c.args.slot _ c.self.view_is c.self.invariant c.requires.named None
    (rw c.in-None.is at c.requires.follows)).sound

pub returns-in-None : goal.returns-in-None
returns-in-None c =
    (stands_unlinked c.self.inside c.args.slot _ c.self.view_is c.self.invariant c.requires.named None
    (rw c.in-None.is at c.requires.follows)).value
