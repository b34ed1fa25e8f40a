use Rattle.std.proofs.Common.{arith}
use Rattle.std.proofs.lemmas.List.{take_rest}
use Rattle.network_steps.proofs.Parting.{parted_at, parted_none}
use Rattle.network_steps.proofs.input.parted.Goals as goal

pub returns-in_err-at-clause-none : goal.returns-in_err-at-clause-none
returns-in_err-at-clause-none c = rw c.from_residual.ensures (parted_none c.args.line.now c.in_err-at.ensures)

pub returns-clause-some : goal.returns-clause-some
returns-clause-some c =
    let first = c.in_ok-at.ensures in
    let parts = parted_at c.args.line.now c.in_ok-at.at first.0.high first.0.before first.1 in grind (arith, parts, take_rest)
