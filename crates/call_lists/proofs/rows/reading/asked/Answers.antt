use Rattle.std.proofs.Common.{arith}
use Rattle.mote_text.proofs.Ticks.{decimal_of_read}
use Rattle.call_lists.proofs.rows.reading.asked.Goals as goal

pub returns-in_ok-number_of-in-Some-clause-word : goal.returns-in_ok-number_of-in-Some-clause-word
returns-in_ok-number_of-in-Some-clause-word c = grind (arith, decimal_of_read)
