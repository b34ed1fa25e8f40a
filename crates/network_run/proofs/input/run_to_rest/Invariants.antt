use Rattle.std.proofs.Common.{◌≡◌, None}
use Rattle.network_run.specs.Code.Ready.{IsFitIf, IsReady}
use Rattle.network_run.specs.Code.Way.{Stopped, moment, outside_waiting}
use Rattle.network_steps.specs.Code.Going.{left_to_do}
use Rattle.network_steps.specs.declared.came.Phase.{Phase}
use Rattle.network_run.proofs.input.run_to_rest.Given as goal

abbrev pub invariant-loop-mote : goal.invariant-loop-mote
invariant-loop-mote g l = record {
  took : g.K.ByteSink.is_named → Stopped l.quiet (outside_waiting l.fn.steps.waiting) (outside_waiting l.steps.waiting) l.text.items
      (moment (g.K.ByteSink.given l.fn.sink) l.fn.text.items l.fn.steps.net (g.H.Caller.voices l.fn.caller))
      (moment (g.K.ByteSink.given l.sink) l.text.items l.steps.net (g.H.Caller.voices l.caller));
  same : g.K.ByteSink.failure_count l.sink ≡ g.K.ByteSink.failure_count l.fn.sink;
  works : l.steps.phase ≡ Phase.Working;
  reported : l.steps.sending ≡ None;
  fit : IsReady l.fn.steps.net → IsFitIf l.steps.waiting l.steps.net;
}

abbrev pub decreases-loop-mote : goal.decreases-loop-mote
decreases-loop-mote g l = left_to_do l.steps
