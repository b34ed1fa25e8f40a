use Rattle.process_core.proofs.Lemmas.{◌∷◌, Continuation, true, answering, reverse, sym, ◌∙◌, ap, arith, has_ended, in_order, is_in_activation, none_in, pushed, room_on_stack, sound-answered, sound-left, turn_sound}
use Rattle.process_core.proofs.scheduler.Scheduler.kill.Goals as goal

pub push-requires : goal.push-requires
push-requires c = omega (arith, room_on_stack c.self.inside.fields c.self.invariant)

pub push-requires-in-Running : goal.push-requires-in-Running
push-requires-in-Running c = omega (arith, room_on_stack c.self.inside.fields c.self.invariant)

pub invariant_of-self : goal.invariant_of-self
invariant_of-self c =
    let d = c.self.inside.fields in
    let s = sound-answered (turn_sound d c.args.caller c.self.invariant (rw (← c.self.view_is) at c.requires)) in
    let runs = sym c.in-Running.ensures.value in
    in_order d c.self.invariant
    (rw (c.set_state.ensures, c.push-in-Running.ensures.items, pushed, c.push.ensures.items, pushed)
    (sound-left c.args.pid _ true s (sym (sym c.if-not-is_application.false ∙ (rw (← c.self.view_is) at c.is_application.ensures)))
    (none_in is_in_activation d.processes (answering (Continuation.Answer c.args.caller ∷ reverse d.stack.items)) c.args.pid.0 s.answers
    (ap is_in_activation runs)) (ap has_ended runs) (λ a. cc))) tt
