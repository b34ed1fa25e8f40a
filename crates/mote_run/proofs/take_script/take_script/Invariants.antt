use Rattle.std.proofs.Common.{◌≡◌, ◌≤◌, ◌+◌, ◌*◌, ◌-◌, ◌^◌, None, length, true, false}
use Rattle.mote_run.proofs.Common.{says_of, is_still, HasCome, IsReady, ReadWhileRunning, moment}
use Rattle.mote_run.proofs.take_script.take_script.Given as goal

abbrev pub invariant-part : goal.invariant-part
invariant-part g l = record {
  has_come : HasCome g.S.ByteSource.is_named g.K.ByteSink.is_named l.quiet (g.S.ByteSource.taken l.fn.source)
      (g.S.ByteSource.taken l.source)
      (moment (g.K.ByteSink.given l.fn.sink) l.fn.mote (says_of (λ b. (goal.App-dyn g (b.vtable, b.value)).says b.value) l.fn.apps))
      (moment (g.K.ByteSink.given l.sink) l.mote (says_of (λ b. (goal.App-dyn g (b.vtable, b.value)).says b.value) l.apps)) l.script;
  no_further : g.S.ByteSource.is_named → g.K.ByteSink.is_named → ReadWhileRunning l.quiet
      (moment (g.K.ByteSink.given l.fn.sink) l.fn.mote (says_of (λ b. (goal.App-dyn g (b.vtable, b.value)).says b.value) l.fn.apps))
      (g.S.ByteSource.taken l.fn.source) (g.S.ByteSource.taken l.source);
  boxes : length l.apps ≡ l.mote.kernel.machine.scheduler.applications;
  closed : l.mote.kernel.turn ≡ None;
  still : is_still l.mote.kernel.machine ≡ true;
  clock : l.mote.kernel.machine.clock ≤ l.script.taken * 2 ^ 32;
  inputs : l.mote.kernel.inputs ≤ l.script.taken;
  ready : IsReady l.script;
  few : l.script.taken + length l.script.piece ≤ 16777217;
  unended : g.S.ByteSource.is_ended l.source ≡ false;
  reads : g.S.ByteSource.failure_count l.source ≡ g.S.ByteSource.failure_count l.fn.source;
  writes : g.K.ByteSink.failure_count l.sink ≡ g.K.ByteSink.failure_count l.fn.sink;
}

abbrev pub decreases-part : goal.decreases-part
decreases-part g l = 16777216 - l.script.taken
