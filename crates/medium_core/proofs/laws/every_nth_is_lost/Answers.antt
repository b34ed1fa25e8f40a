use Rattle.std.proofs.Common.{◌-◌, arith}
use Rattle.medium_core.proofs.Nth.{but_nth}
use Rattle.medium_core.proofs.laws.every_nth_is_lost.Goals as goal

pub returns : goal.returns
returns c n link frames some e = but_nth n 1 0 (n - 1) link frames e (omega (arith, some)) (omega (arith, some))
