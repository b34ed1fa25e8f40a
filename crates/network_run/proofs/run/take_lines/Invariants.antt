use Rattle.std.proofs.Common.{◌≡◌, ◌+◌, ◌<◌, ◌^◌, length}
use Rattle.network_run.specs.Code.Way.{HasCome, IsAtRest, moment}
use Rattle.mote_text.specs.Script.{script_lines}
use Rattle.network_steps.specs.NetworkScript.{read_network_lines}
use Rattle.network_run.proofs.run.take_lines.Given as goal

abbrev pub invariant-loop-line : goal.invariant-loop-line
invariant-loop-line g l = record {
  came : g.K.ByteSink.is_named → HasCome l.quiet
      (read_network_lines (length l.fn.steps.net.motes) l.first (script_lines l.script))
      (read_network_lines (length l.fn.steps.net.motes) l.number (script_lines l.rest))
      (moment (g.K.ByteSink.given l.fn.sink) l.fn.text.items l.fn.steps.net (g.H.Caller.voices l.fn.caller))
      (moment (g.K.ByteSink.given l.sink) l.text.items l.steps.net (g.H.Caller.voices l.caller));
  same : g.K.ByteSink.failure_count l.sink ≡ g.K.ByteSink.failure_count l.fn.sink;
  rests : IsAtRest l.steps;
  numbers : l.number + length l.rest < 2 ^ 32;
}

abbrev pub decreases-loop-line : goal.decreases-loop-line
decreases-loop-line g l = length l.rest
