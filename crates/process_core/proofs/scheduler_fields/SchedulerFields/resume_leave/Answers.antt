use Rattle.process_core.proofs.Lemmas.{arith, refl, false, [], Continuation, pushed, room_below, idle_sound, in_order, sound-exiting, sound-removed}
use Rattle.std.proofs.Common.{rules}
use Rattle.process_core.proofs.scheduler_fields.SchedulerFields.resume_leave.Goals as goal

pub push-requires : goal.push-requires
push-requires c = omega (arith, room_below c.args.self.now (Continuation.Leave c.args.pid c.args.walk c.args.exits) c.requires.order)

pub push-requires-in-None : goal.push-requires-in-None
push-requires-in-None c =
    omega (arith, room_below c.args.self.now (Continuation.Leave c.args.pid c.args.walk c.args.exits) c.requires.order)

pub returns-then-not-exits-clause-finds : goal.returns-then-not-exits-clause-finds
returns-then-not-exits-clause-finds c =
    let d = c.args.self.now in
    record {
      yields = search rules;
      holds = tt;
      front = c.requires.idle;
      order =
          in_order d c.requires.order
          (rw (c.remove.ensures, c.requires.idle)
          (sound-removed c.args.pid c.args.walk c.args.exits (idle_sound d c.requires.order c.requires.idle))) c.requires.order.starts;
    }

pub returns-else-not-exits-clause-finds : goal.returns-else-not-exits-clause-finds
returns-else-not-exits-clause-finds c =
    let d = c.args.self.now in
    record {
      yields =
          rw (
            c.plain_event.ensures,
            c.set_state.ensures,
            c.push-in-None.ensures.items,
            c.in-None.ensures.1,
            pushed c.args.self.now.stack.items (Continuation.Leave c.args.pid [] false),
            c.in-None.ensures.0,
            c.if-not-exits.false,
          )
          (1, refl, refl);
      holds = tt;
      front = refl;
      order =
          in_order d c.requires.order
          (rw (c.set_state.ensures, c.push-in-None.ensures.items, pushed)
          (sound-exiting c.args.pid c.args.walk _ c.args.exits _ (idle_sound d c.requires.order c.requires.idle))) tt;
    }

pub remove-requires : goal.remove-requires
remove-requires c = grind arith
