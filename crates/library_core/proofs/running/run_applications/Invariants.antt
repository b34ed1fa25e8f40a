use Rattle.std.proofs.Common.{◌≡◌, length}
use Rattle.mote_run.proofs.Boxed.{AreBoxed}
use Rattle.std.specs.Vec.Iter.{into_iter_items, into_iter_len}
use Rattle.call_lists.specs.Applications.{application_says}
use Rattle.library_core.proofs.running.run_applications.OwnLists.{own-1}
use Rattle.library_core.proofs.running.run_applications.Given as goal

abbrev pub invariant-loop-application : goal.invariant-loop-application
invariant-loop-application l =
    AreBoxed (λ b. (own-1.entry b.vtable).1.says b.value) application_says l.boxes.items l.yielded (into_iter_items l.application-iterator)
    (into_iter_items l.initial.application-iterator)
    × (into_iter_len l.application-iterator ≡ length (into_iter_items l.application-iterator))
