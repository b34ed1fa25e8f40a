use Rattle.process_core.proofs.Lemmas.{◌∙◌, arith, application_at_turn, in_order, present, pushed, room_on_stack, sound-left, sound-quiet, stays_here, turn_sound}
use Rattle.process_core.proofs.scheduler.Scheduler.ended.Goals as goal

pub push-requires : goal.push-requires
push-requires c = omega (arith, room_on_stack c.self.inside.fields c.self.invariant)

pub invariant_of-self-in_default : goal.invariant_of-self-in_default
invariant_of-self-in_default c =
    let d = c.self.inside.fields in
    let s = turn_sound d c.args.caller c.self.invariant (rw (← c.self.view_is) at c.requires) in
    in_order d c.self.invariant
    (rw (c.set_state.ensures, c.push.ensures.items, pushed)
    (sound-left c.args.caller _ _ (sound-quiet s) (application_at_turn s) s.at_turn.apart
    (stays_here _ s.at_turn.active (λ e. c.in_default.not-Ending (c.state_of.ensures.value ∙ e))) (present _ s.at_turn.active))) tt
