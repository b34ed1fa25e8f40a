use Rattle.process_core.proofs.Lemmas.{false, refl, agenda_of, delivers_only, is_empty, is_only_marked, order_marked}
use Rattle.std.proofs.lemmas.Bool.{and_parts}
use Rattle.process_core.proofs.scheduler.Scheduler.pass_poll.Goals as goal

pub invariant_of-self : goal.invariant_of-self
invariant_of-self c =
    let kept = order_marked c.self.inside.fields c.set_mark.new.self c.args.pid.0 false c.self.invariant c.set_mark.ensures in
    record { sound = kept.sound; starts = kept.starts; boots = tt; room = kept.room; few = kept.few; numbers = kept.numbers; event = kept.event }

pub returns : goal.returns
returns c =
    let fields = c.self.inside.fields in
    let alone =
    rw (← c.self.view_is) at c.requires.alone in
    rw (
      ← c.self.view_is,
      c.set_mark.ensures,
      delivers_only fields ((and_parts (is_empty (agenda_of fields))
          (is_only_marked c.args.pid.0 fields.processes) alone).0),
    ) refl
