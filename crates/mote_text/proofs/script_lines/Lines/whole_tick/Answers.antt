use Rattle.std.proofs.Common.{rules}
use Rattle.mote_text.proofs.Ticks.{tick_at}
use Rattle.mote_text.proofs.script_lines.Lines.whole_tick.Goals as goal

pub returns-clause-tick : goal.returns-clause-tick
returns-clause-tick c =
    tick_at _ _ c.in_ok-digits.digits c.in_ok-digits.number c.put_tick.ensures (search rules) c.in_ok-digits.ensures.short
    c.in_ok-digits.ensures.ended c.in_ok-digits.ensures.number
