use Rattle.std.proofs.Common.{◌+◌, ◌≤◌, ◌^◌, length}
use Rattle.mote_text.specs.Script.{script_lines}
use Rattle.network_setup.proofs.SettingUp.{IsOnTheWay}
use Rattle.network_setup.proofs.run.read_setup.Given as goal

abbrev pub invariant-loop-line : goal.invariant-loop-line
invariant-loop-line l =
    (l.lines.number + length l.lines.rest.now ≤ 2 ^ 24)
    × IsOnTheWay l.lines.number (script_lines l.fn.script) (script_lines l.lines.rest.now) l.fn.setup l.setup

abbrev pub decreases-loop-line : goal.decreases-loop-line
decreases-loop-line l = length l.lines.rest.now
