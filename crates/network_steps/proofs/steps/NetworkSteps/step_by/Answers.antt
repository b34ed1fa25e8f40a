use Rattle.network_steps.proofs.steps.NetworkSteps.step_by.Goals as goal

pub returns-then-branch-clause-steps : goal.returns-then-branch-clause-steps
returns-then-branch-clause-steps g c = rw c.if-branch.true at c.in_ok-work_by-in-Some.ensures.steps

pub returns-else-branch-clause-steps : goal.returns-else-branch-clause-steps
returns-else-branch-clause-steps g c = rw c.if-branch.false at c.in_ok-work_by-in-Some.ensures.steps

pub returns-then-branch-2-clause-steps : goal.returns-then-branch-2-clause-steps
returns-then-branch-2-clause-steps g c = rw c.came.ensures ((rw c.if-branch-2.true at c.in_ok-step_on-in-None.ensures.steps) _)

pub returns-else-branch-2-clause-steps : goal.returns-else-branch-2-clause-steps
returns-else-branch-2-clause-steps g c = (rw c.if-branch-2.false at c.in_ok-step_on-in-None.ensures.steps) _
