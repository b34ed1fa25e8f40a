use Rattle.process_core.proofs.Lemmas.{refl, sym, finds_next, idle_sound, in_order, sound-started}
use Rattle.process_core.proofs.scheduler_fields.SchedulerFields.start_one.Goals as goal

pub give-requires-clause-order : goal.give-requires-clause-order
give-requires-clause-order c =
    let d = c.args.self.now in
    in_order d c.requires.order
    (rw (c.add.ensures, c.requires.idle)
    (sound-started c.args.pid.0 (idle_sound d c.requires.order c.requires.idle) c.requires.known (sym c.in-Absent.ensures.value)))
    c.requires.order.starts

pub returns-in-Absent-clause-finds : goal.returns-in-Absent-clause-finds
returns-in-Absent-clause-finds c =
    rw c.plain_event.ensures
    (finds_next refl
    (rw (← c.in-Absent.ensures.value) (rw (c.add.ensures, c.plain_event.ensures) at c.give.ensures.finds)))
