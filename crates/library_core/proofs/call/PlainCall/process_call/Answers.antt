use Rattle.std.proofs.Common.{rules}
use Rattle.library_core.proofs.call.PlainCall.process_call.Goals as goal

pub returns-in_err-byte-in-2-clause-none : goal.returns-in_err-byte-in-2-clause-none
returns-in_err-byte-in-2-clause-none c = rw c.in-2.is (search rules)

pub returns-in_err-carried-in-2-clause-none : goal.returns-in_err-carried-in-2-clause-none
returns-in_err-carried-in-2-clause-none c = rw c.in-2.is (search rules)

pub returns-in_ok-carried-in-2-clause-said : goal.returns-in_ok-carried-in-2-clause-said
returns-in_ok-carried-in-2-clause-said c = rw c.in-2.is (search rules)
