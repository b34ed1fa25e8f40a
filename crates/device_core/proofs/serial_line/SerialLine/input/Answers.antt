use Rattle.std.proofs.Common.{ap, arith, sym, ◌∙◌}
use Rattle.device_core.proofs.Common.{after_bytes}
use Rattle.device_core.proofs.WholeLines.{is_whole, quiet, taken_whole}
use Rattle.device_core.proofs.serial_line.SerialLine.input.Goals as goal

pub invariant_of-self : goal.invariant_of-self
invariant_of-self c = λ _. rw c.begin_line.ensures (is_whole c.args.bytes.now (sym c.is_one_line.ensures ∙ c.if-is_one_line.true))

pub returns-then-is_one_line : goal.returns-then-is_one_line
returns-then-is_one_line c =
    let bytes = c.args.bytes.now in
    let before = quiet c.self.inside.bytes (sym c.is_quiet.ensures ∙ c.if-is_quiet.true) in
    rw c.begin_line.ensures (sym (taken_whole bytes (sym c.is_one_line.ensures ∙ c.if-is_one_line.true))
    ∙ ap (λ serial. after_bytes serial bytes) (sym before ∙ grind arith))
