use Rattle.std.proofs.Common.{refl}
use Rattle.network_steps.proofs.Going.{err_on, goes_unheard, is_not, passes_hand, stops_input}
use Rattle.network_steps.proofs.Silent.{less_handed}
use Rattle.network_steps.specs.contracts.steps.NetworkSteps.{the_view}
use Rattle.network_steps.proofs.steps.NetworkSteps.hand_over.Goals as goal

pub returns-in_err-give_input-clause-failed : goal.returns-in_err-give_input-clause-failed
returns-in_err-give_input-clause-failed c =
    let rests = rw (← c.self.view_is) at c.requires.rests in
    rw (← c.self.view_is)
    (err_on c.from_residual.result _ _ c.from_residual.ensures.1
    (λ voices. stops_input _ c.args.waiting (the_view c.self.inside) c.give_input.new.network voices rests c.in_err-give_input.ensures.works
    c.in_err-give_input.ensures.refused.0 c.in_err-give_input.ensures.refused.1))

pub returns-then-branch-clause-steps : goal.returns-then-branch-clause-steps
returns-then-branch-clause-steps c = λ voices.
    let rests = rw (← c.self.view_is) at c.requires.rests in
    let works = rw (← c.self.view_is) at c.requires.works in
    let reported = rw (← c.self.view_is) at c.requires.reported in
    let taken = rw (← c.self.view_is) at c.requires.taken in
    rw (← c.self.view_is)
    (passes_hand c.args.waiting _ _ c.give_input.new.network voices reported works taken rests (c.in_ok-give_input.ensures.given c.if-branch.true) refl)

pub returns-then-branch-clause-nearer : goal.returns-then-branch-clause-nearer
returns-then-branch-clause-nearer c =
    let taken = rw (← c.self.view_is) at c.requires.taken in
    rw (← c.self.view_is)
    (less_handed c.args.waiting (the_view c.self.inside) (the_view (record c.self.inside { network = c.give_input.new.network }))
    (c.in_ok-give_input.ensures.given c.if-branch.true) c.entries_are_few.ensures taken)

pub returns-clause-steps : goal.returns-clause-steps
returns-clause-steps c = λ voices.
    let rests = rw (← c.self.view_is) at c.requires.rests in
    let works = rw (← c.self.view_is) at c.requires.works in
    let reported = rw (← c.self.view_is) at c.requires.reported in
    let taken = rw (← c.self.view_is) at c.requires.taken in
    let halted = is_not _ (rw c.if-branch.false at c.in_ok-give_input.ensures.halted) in
    rw (← c.self.view_is, c.in_ok-give_input.ensures.missed c.if-branch.false, works)
    (goes_unheard c.args.waiting _ _ voices reported taken rests halted refl refl)
