use Rattle.mote_run.proofs.Determined.{one_end, one_text}
use Rattle.mote_run.proofs.law.text_is_one.Goals as goal

pub returns-clause-text : goal.returns-clause-text
returns-clause-text c = λ config applications quiet script out also end ends x y. one_text x y

pub returns-clause-end : goal.returns-clause-end
returns-clause-end c = λ config applications quiet script out also end ends x y. one_end x y
