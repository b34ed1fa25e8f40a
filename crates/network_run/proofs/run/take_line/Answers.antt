use Rattle.std.proofs.Common.{Some, None}
use Rattle.network_run.proofs.Inputs.{line_outside}
use Rattle.network_run.proofs.Scripts.{come_on, ends_bad, ends_halted, faulted_in, line_is, read_for_some}
use Rattle.network_run.proofs.Ways.{fault_on, went_of}
use Rattle.network_run.proofs.run.take_line.Goals as goal

pub returns-in-Malformed-clause-runs : goal.returns-in-Malformed-clause-runs
returns-in-Malformed-clause-runs g c = λ named script later from come.
    ends_bad c.args.quiet (line_is c.args.quiet c.args.number c.args.line.now None later come (rw c.network.ensures at c.in-Malformed.ensures)) c.requires.rests.rests

pub returns-in-Nothing-clause-runs : goal.returns-in-Nothing-clause-runs
returns-in-Nothing-clause-runs g c = λ named script later from come.
    line_is c.args.quiet c.args.number c.args.line.now (Some None) later come (rw c.network.ensures at c.in-Nothing.ensures)

pub take_input-requires-clause-for_some : goal.take_input-requires-clause-for_some
take_input-requires-clause-for_some g c = read_for_some _ c.args.line.now c.in-Input.input (rw c.network.ensures at c.in-Input.ensures)

pub take_input-requires-clause-outside : goal.take_input-requires-clause-outside
take_input-requires-clause-outside g c = line_outside _ c.args.line.now c.in-Input.input (rw c.network.ensures at c.in-Input.ensures)

pub returns-in_err-take_input-in-Input-clause-runs : goal.returns-in_err-take_input-in-Input-clause-runs
returns-in_err-take_input-in-Input-clause-runs g c = λ named script later from come.
    let took = c.in_err-take_input-in-Input.ensures.takes named in
    fault_on c.from_residual.result _ _ _ c.from_residual.ensures.1
    (faulted_in c.args.quiet later took.0 (line_is c.args.quiet c.args.number c.args.line.now (Some (Some c.in-Input.input)) later come (rw c.network.ensures at c.in-Input.ensures))
    took.1 took.2)

pub returns-then-branch-clause-runs : goal.returns-then-branch-clause-runs
returns-then-branch-clause-runs g c = λ named script later from come.
    let took = c.in_ok-take_input-in-Input.ensures.takes named in
    come_on c.args.quiet later took.0 (line_is c.args.quiet c.args.number c.args.line.now (Some (Some c.in-Input.input)) later come (rw c.network.ensures at c.in-Input.ensures))
    took.1 (went_of c.args.quiet took.2 c.if-branch.true)

pub returns-else-branch-clause-runs : goal.returns-else-branch-clause-runs
returns-else-branch-clause-runs g c = λ named script later from come.
    let took = c.in_ok-take_input-in-Input.ensures.takes named in
    ends_halted c.args.quiet later took.0 (line_is c.args.quiet c.args.number c.args.line.now (Some (Some c.in-Input.input)) later come (rw c.network.ensures at c.in-Input.ensures))
    took.1 took.2 (rw c.if-branch.false at c.in_ok-take_input-in-Input.ensures.rests)
