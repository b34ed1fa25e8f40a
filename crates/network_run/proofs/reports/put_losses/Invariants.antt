use Rattle.std.proofs.Common.{◌≡◌, ◌++◌, ℕ, List}
use Rattle.mote_text.specs.Code.Writing.{WritesOn}
use Rattle.network_steps.specs.Code.Going.{links_left}
use Rattle.network_steps.specs.Lines.{losses_left}
use Rattle.network_steps.specs.declared.came.Phase.{Phase}
use Rattle.network_run.proofs.reports.put_losses.Given as goal

abbrev pub invariant-loop-came : goal.invariant-loop-came
invariant-loop-came g l = record {
  puts : g.K.ByteSink.is_named → (done : List ℕ) × (losses_left l.fn.steps.sending l.fn.steps.net ≡ done ++ losses_left l.steps.sending l.steps.net)
      × WritesOn (g.K.ByteSink.given l.fn.sink) l.fn.text.items (g.K.ByteSink.given l.sink) l.text.items done;
  same : g.K.ByteSink.failure_count l.sink ≡ g.K.ByteSink.failure_count l.fn.sink;
  net : l.steps.net ≡ l.fn.steps.net;
  waiting : l.steps.waiting ≡ l.fn.steps.waiting;
  works : l.fn.steps.phase ≡ Phase.Working → l.steps.phase ≡ Phase.Working;
}

abbrev pub decreases-loop-came : goal.decreases-loop-came
decreases-loop-came g l = links_left l.steps.sending l.steps.net
