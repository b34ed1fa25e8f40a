use Rattle.timer_core.proofs.Lemmas.{◌≡◌, ◌∙◌, ap, arith, Timer, stop_timer, all_named, all_events, is_event_timer_of, one_event, without_more, without_none, without_same}
use Rattle.timer_core.proofs.table.TimerTable.disarm_events.Goals as goal

pub loop-number-init : goal.loop-number-init
loop-number-init c = without_none (is_event_timer_of c.args.pid.0) c.args.self.now

pub loop-number-preserved : goal.loop-number-preserved
loop-number-preserved c =
    c.disarm.ensures ∙ (ap (stop_timer (Timer.Event c.args.pid c.loop-number.number)) c.loop-number.invariant
    ∙ without_more _ _ _ (one_event c.args.pid c.loop-number.number) c.args.self.now)

pub returns : goal.returns
returns c =
    let last : c.loop-number.number ≡ 8 = omega arith in
    (rw last at c.loop-number.invariant) ∙ without_same _ _ (all_events c.args.pid.0) c.args.self.now (grind (arith, all_named))
