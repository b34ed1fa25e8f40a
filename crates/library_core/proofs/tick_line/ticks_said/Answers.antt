use Rattle.std.proofs.Common.{rules, ◌≡◌, ◌≤◌, ◌++◌, ℕ, List, length, codes, sym, ap, arith, length-append, Option, None, Some, IfSome}
use Rattle.mote_types.specs.declared.entry.Input.{Input as Said}
use Rattle.mote_text.specs.Script.{read_line, read_number}
use Rattle.mote_text.proofs.Ticks.{read_tick_text}
use Rattle.library_core.proofs.tick_line.ticks_said.Goals as goal

said : (line text : List ℕ) (ticks : Option ℕ) → line ≡ codes "tick " ++ text → length text ≤ 1000 → ticks ≡ read_number text
    → IfSome ticks (λ n. read_line line ≡ Some (Some (Said.Tick n)))
said line text None whole short reads = tt
said line text (Some n) whole short reads = rw whole (read_tick_text text n short (sym reads))

pub returns : goal.returns
returns c =
    let whole : c.args.line.now ≡ codes "tick " ++ c.in_ok-strip_prefix.field-0.now = search rules in
    said c.args.line.now c.in_ok-strip_prefix.field-0.now c.read_number.result whole
    (omega (arith, ap length whole, length-append (codes "tick ") c.in_ok-strip_prefix.field-0.now, c.if-line-gt-TICK_LINE.false)) c.read_number.ensures
