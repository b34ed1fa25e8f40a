use Rattle.process_core.proofs.Lemmas.{◌≡◌, true, false, refl, sym, ◌∙◌, is_any_marked, finds_from, polled_receiver, received}
use Rattle.std.proofs.Common.{rules}
use Rattle.process_core.proofs.scheduler_fields.SchedulerFields.resume_broadcast.Goals as goal
use Rattle.process_core.proofs.scheduler_fields.SchedulerFields.resume_broadcast.Goals.{else-not-is_polled-via-then-not-is_polled+then-is_any_marked+else-not-is_over, else-not-is_polled-via-then-not-is_polled+else-is_any_marked, else-not-is_polled-via-else-not-is_polled}

pub returns-in-Some-clause-finds : goal.returns-in-Some-clause-finds
returns-in-Some-clause-finds c = λ other.
    let unmarked : (c.args.is_polled ≡ false → is_any_marked c.args.self.now.processes ≡ false) = elim c.else-not-is_polled.branch [
      | else-not-is_polled-via-then-not-is_polled+then-is_any_marked+else-not-is_over w ↦
          λ e. let no : false ≡ true = rw c.in-Some.ensures at (sym w.is_over.ensures ∙ w.if-not-is_over.false) in absurd (cc)
      | else-not-is_polled-via-then-not-is_polled+else-is_any_marked w ↦ λ e. sym w.is_any_marked.ensures ∙ w.if-is_any_marked.false
      | else-not-is_polled-via-else-not-is_polled w ↦ λ e. absurd (cc)
    ] in
    finds_from
    (received c.args.self.now c.args.is_polled c.in-Some.pid.0 c.advance.new.self _ _ c.requires.bare c.in-Some.ensures unmarked)
    (c.give_event.ensures.finds other)

pub returns-then-not-is_over-clause-finds : goal.returns-then-not-is_over-clause-finds
returns-then-not-is_over-clause-finds c = λ other.
    record {
      yields =
          polled_receiver c.args.self.now c.args.is_polled c.args.self.now.walk c.walk_to_poll-self.result c.requires.bare
          c.if-not-is_polled.true refl (sym c.is_over.ensures ∙ c.if-not-is_over.true)
          (sym c.is_any_marked.ensures ∙ c.if-is_any_marked.true) c.walk_to_poll-self.ensures.rest;
      holds = tt;
      front = c.requires.idle;
      order = search rules;
    }
