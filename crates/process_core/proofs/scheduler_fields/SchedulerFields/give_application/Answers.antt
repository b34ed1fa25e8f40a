use Rattle.process_core.proofs.Lemmas.{sym, ◌∙◌, refl, scheduler_behind, give_yields_nothing, idle_sound, in_order, sound-given}
use Rattle.std.proofs.Common.{rules}
use Rattle.process_core.proofs.scheduler_fields.SchedulerFields.give_application.Goals as goal

pub returns-in-Running-clause-finds : goal.returns-in-Running-clause-finds
returns-in-Running-clause-finds c = λ other.
    let d = c.args.self.now in
    record {
      yields = search rules;
      holds = tt;
      front = refl;
      order =
          in_order d c.requires.order
          (rw c.set_state.ensures
          (sound-given c.args.pid (idle_sound d c.requires.order c.requires.idle) c.requires.application (sym c.in-Running.ensures.value))) tt;
    }

pub returns-in_default : goal.returns-in_default
returns-in_default c =
    record {
      finds = λ other. record {
        yields =
            give_yields_nothing (scheduler_behind c.args.self.now) c.args.pid.0 c.args.origin _ c.requires.application
            (λ e. c.in_default.not-Running (c.state_of.ensures.value ∙ e));
        holds = tt;
        front = c.requires.idle;
        order = c.requires.order;
      };
      kept = refl;
    }
