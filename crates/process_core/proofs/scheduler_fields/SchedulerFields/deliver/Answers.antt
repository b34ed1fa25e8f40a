use Rattle.process_core.proofs.Lemmas.{deliver_to_yields, finds_from}
use Rattle.process_core.proofs.scheduler_fields.SchedulerFields.deliver.Goals as goal

pub returns-in-Some-To-clause-finds : goal.returns-in-Some-To-clause-finds
returns-in-Some-To-clause-finds c = λ other.
    finds_from (deliver_to_yields c.args.self.now c.drop_first.new.events c.in-Some-To.pid c.in-Some-To.event _ _
    (rw c.in-Some-To.field-0-is at c.in-Some-To.ensures) c.drop_first.ensures c.requires.bare.base)
    (rw c.write_event.ensures at (c.give_event.ensures.finds other))
