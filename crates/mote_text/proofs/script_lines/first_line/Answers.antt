use Rattle.std.proofs.Common.{rules, ◌<◌, arith, length}
use Rattle.std.proofs.lemmas.List.{take_rest}
use Rattle.mote_text.proofs.ScriptLines.{first_line_at, last_line_at}
use Rattle.mote_text.proofs.script_lines.first_line.Goals as goal

pub returns-in-Some-clause-line : goal.returns-in-Some-clause-line
returns-in-Some-clause-line c =
    let first = c.in-Some.ensures in
    let parts = first_line_at c.args.script.now c.in-Some.end first.0.high first.0.before first.1 in grind (arith, parts, take_rest)

pub returns-in-None-clause-line : goal.returns-in-None-clause-line
returns-in-None-clause-line c =
    let some : 0 < length c.args.script.now = search rules in
    last_line_at c.args.script.now some c.in-None.ensures
