use Rattle.call_lists.proofs.Possible.{no_call, of_each}
use Rattle.call_lists.proofs.Taken.{whole_call}
use Rattle.call_lists.proofs.calls.call_of.Goals as goal

pub returns-clause-taken : goal.returns-clause-taken
returns-clause-taken c =
    whole_call c.args.text.now c.of-words.result c.process_call-call.new.words _ c.of-words.ensures.text c.process_call-call.ensures.taken
    c.in_ok-finish.ensures.taken.0 c.in_ok-finish.ensures.taken.1

pub returns-in_err-finish-clause-refused : goal.returns-in_err-finish-clause-refused
returns-in_err-finish-clause-refused c =
    of_each _ c.from_residual.result
    (no_call c.args.text.now c.of-words.result c.process_call-call.new.words c.of-words.ensures.name c.of-words.ensures.left
    c.process_call-call.ensures.left c.in_err-finish.ensures.refused)
