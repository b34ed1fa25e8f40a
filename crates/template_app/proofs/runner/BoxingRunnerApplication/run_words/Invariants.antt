use Rattle.mote_shell.proofs.Boxed.{AreBoxed}
use Rattle.template_app.proofs.runner.BoxingRunnerApplication.run_words.Given as goal
use Rattle.template_app.proofs.runner.BoxingRunnerApplication.run_words.OwnLists.{own-1}
use Rattle.template_app.specs.contracts.application.ApplicationApp.TheImpl.{says-value}

-- a box for each application so far, which says the same, and the others follow
abbrev pub invariant-loop-application : goal.invariant-loop-application
invariant-loop-application g l =
    AreBoxed (λ b. (own-1.entry b.vtable).1.says b.value) says-value.it l.boxes.items l.yielded l.application-iterator
    l.named.applications.items
