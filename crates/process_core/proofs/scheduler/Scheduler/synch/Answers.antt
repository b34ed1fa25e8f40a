use Rattle.process_core.proofs.Lemmas.{arith, in_order, pushed, room_on_stack, sound-answered, turn_sound}
use Rattle.process_core.proofs.scheduler.Scheduler.synch.Goals as goal

pub push-requires : goal.push-requires
push-requires c = omega (arith, room_on_stack c.self.inside.fields c.self.invariant)

pub invariant_of-self : goal.invariant_of-self
invariant_of-self c =
    let d = c.self.inside.fields in
    in_order d c.self.invariant
    (rw (c.push.ensures.items, pushed)
    (sound-answered (turn_sound d c.args.caller c.self.invariant (rw (← c.self.view_is) at c.requires)))) tt
