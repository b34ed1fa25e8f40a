use Rattle.std.proofs.Common.{arith, inl}
use Rattle.mote_text.proofs.Ticks.{decimal_of_read}
use Rattle.call_lists.proofs.rows.reading.event_trigger.Goals as goal

pub returns-in_ok-number_of-in-Some : goal.returns-in_ok-number_of-in-Some
returns-in_ok-number_of-in-Some c = inl (grind (arith, decimal_of_read))

pub returns-in-None : goal.returns-in-None
returns-in-None c = inl (grind (arith, decimal_of_read))
