use Rattle.std.proofs.Common.{◌≡◌, ◌≤◌, ◌-◌, ◌++◌, length, take}
use Rattle.mote_text.proofs.write.write_all.Given as goal

abbrev pub invariant-loop-done : goal.invariant-loop-done
invariant-loop-done g l = record {
  given : g.K.ByteSink.is_named → g.K.ByteSink.given l.sink ≡ g.K.ByteSink.given l.fn.sink ++ take l.done l.bytes;
  same : g.K.ByteSink.failure_count l.sink ≡ g.K.ByteSink.failure_count l.fn.sink;
  front : l.done ≤ length l.bytes;
}

abbrev pub decreases-loop-done : goal.decreases-loop-done
decreases-loop-done g l = length l.bytes - l.done
