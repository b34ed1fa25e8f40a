use Rattle.std.proofs.Common.{◌≡◌, None, []}
use Rattle.mote_run.proofs.Common.{says_of, Went, moment}
use Rattle.mote_run.proofs.running_mote.RunningMote.settle.Given as goal

abbrev pub invariant-entry : goal.invariant-entry
invariant-entry g l = record {
  went : g.K.ByteSink.is_named → Went l.quiet []
      (moment (g.K.ByteSink.given l.fn.sink) l.fn.self (says_of (λ b. (goal.App-dyn g (b.vtable, b.value)).says b.value) l.fn.apps))
      (moment (g.K.ByteSink.given l.sink) l.self (says_of (λ b. (goal.App-dyn g (b.vtable, b.value)).says b.value) l.apps));
  found : record {
    applications : l.self.kernel.machine.scheduler.applications ≡ l.fn.self.kernel.machine.scheduler.applications;
    clock : l.self.kernel.machine.clock ≡ l.fn.self.kernel.machine.clock;
    inputs : l.self.kernel.inputs ≡ l.fn.self.kernel.inputs;
    closed : l.self.kernel.turn ≡ None;
    same : g.K.ByteSink.failure_count l.sink ≡ g.K.ByteSink.failure_count l.fn.sink;
  };
}

abbrev pub decreases-entry : goal.decreases-entry
decreases-entry g l = l.self.kernel.entries_left
