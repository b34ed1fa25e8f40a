use Rattle.std.proofs.Common.{arith, rules}
use Rattle.call_lists.proofs.applications.waits.Goals as goal

pub returns : goal.returns
returns c = λ place call below. let one = c.from_fn.ensures.items.at place call (omega arith) in
    search rules
