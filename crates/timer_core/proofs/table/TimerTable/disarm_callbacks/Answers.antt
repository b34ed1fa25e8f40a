use Rattle.timer_core.proofs.Lemmas.{◌≡◌, ◌∙◌, ap, arith, Timer, stop_timer, all_named, all_callbacks, is_callback_timer_of, one_callback, without_more, without_none, without_same}
use Rattle.timer_core.proofs.table.TimerTable.disarm_callbacks.Goals as goal

pub loop-number-init : goal.loop-number-init
loop-number-init c = without_none (is_callback_timer_of c.args.pid.0) c.args.self.now

pub loop-number-preserved : goal.loop-number-preserved
loop-number-preserved c =
    c.disarm.ensures ∙ (ap (stop_timer (Timer.Callback c.args.pid c.loop-number.number)) c.loop-number.invariant
    ∙ without_more _ _ _ (one_callback c.args.pid c.loop-number.number) c.args.self.now)

pub returns : goal.returns
returns c =
    let last : c.loop-number.number ≡ 4 = omega arith in
    (rw last at c.loop-number.invariant) ∙ without_same _ _ (all_callbacks c.args.pid.0) c.args.self.now (grind (arith, all_named))
