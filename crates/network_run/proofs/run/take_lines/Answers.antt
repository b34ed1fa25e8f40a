use Rattle.std.proofs.Common.{refl}
use Rattle.network_run.proofs.Scripts.{come_nowhere, ends_finished}
use Rattle.network_run.proofs.run.take_lines.Goals as goal

pub loop-line-init : goal.loop-line-init
loop-line-init g c = record { came = λ named. come_nowhere c.args.quiet _ _; same = refl; rests = c.requires.rests; numbers = c.requires.numbers }

pub returns-clause-runs : goal.returns-clause-runs
returns-clause-runs g c = λ named.
    ends_finished c.args.quiet _ c.loop-line.number c.loop-line.rest.now c.in_default.ensures.none (c.loop-line.invariant.came named) c.loop-line.invariant.rests.rests
