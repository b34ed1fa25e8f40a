use Rattle.process_core.proofs.Lemmas.{◌∙◌, refl, state_of, in_order, no_front, not_ending, sound-waited, stays_here, turn_sound}
use Rattle.process_core.proofs.scheduler.Scheduler.waited.Goals as goal

pub returns-in_default : goal.returns-in_default
returns-in_default c =
    let stays =
    not_ending (state_of c.args.caller.0 c.self.inside.fields.processes) (λ e. c.in_default.not-Ending (c.state_of.ensures.value ∙ e)) in
    rw (
      ← c.self.view_is,
      stays,
      c.set_state.ensures,
      no_front (c.self.inside.fields.front) c.args.caller c.self.inside.fields.reply c.self.inside.fields.synch
          (rw (← c.self.view_is) at c.requires),
    ) refl

pub invariant_of-self-in_default : goal.invariant_of-self-in_default
invariant_of-self-in_default c =
    let d = c.self.inside.fields in
    let s = turn_sound d c.args.caller c.self.invariant (rw (← c.self.view_is) at c.requires) in
    in_order d c.self.invariant
    (rw c.set_state.ensures
    (sound-waited s (stays_here _ s.at_turn.active (λ e. c.in_default.not-Ending (c.state_of.ensures.value ∙ e))))) tt
