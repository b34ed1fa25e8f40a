use Rattle.process_core.proofs.Lemmas.{◌≡◌, false, sym, ◌∙◌, is_any_marked, delivered, finds_from, polled_first}
use Rattle.std.proofs.Common.{rules}
use Rattle.process_core.proofs.scheduler_fields.SchedulerFields.resume_deliver.Goals as goal
use Rattle.process_core.proofs.scheduler_fields.SchedulerFields.resume_deliver.Goals.{else-not-is_polled-via-then-not-is_polled+else-is_any_marked, else-not-is_polled-via-else-not-is_polled}

pub returns-clause-finds : goal.returns-clause-finds
returns-clause-finds c = λ other.
    let unmarked : (c.args.is_polled ≡ false → is_any_marked c.args.self.now.processes ≡ false) = elim c.else-not-is_polled.branch [
      | else-not-is_polled-via-then-not-is_polled+else-is_any_marked w ↦ λ e. sym w.is_any_marked.ensures ∙ w.if-is_any_marked.false
      | else-not-is_polled-via-else-not-is_polled w ↦ λ e. absurd (cc)
    ] in
    finds_from (delivered c.args.self.now c.args.is_polled _ _ c.requires.bare unmarked) (c.deliver.ensures.finds other)

pub returns-then-is_any_marked-clause-finds : goal.returns-then-is_any_marked-clause-finds
returns-then-is_any_marked-clause-finds c = λ other.
    record {
      yields =
          polled_first c.args.self.now c.args.is_polled c.walk_to_poll-self.result c.requires.bare c.if-not-is_polled.true
          (sym c.is_any_marked.ensures ∙ c.if-is_any_marked.true) c.walk_to_poll-self.ensures.rest;
      holds = tt;
      front = c.requires.idle;
      order = search rules;
    }
