-- Small facts on results.
use Rattle.std.proofs.Common.{◌≡◌, arith, IsErrOf, OnErr, Result}
use Rattle.mote_run.proofs.Common.{IsErrAnd, RunFault}

pub on_err : {T E P : Type 0} (r : Result T E) → P → OnErr r P
on_err r p = grind arith

-- a failed write is no failed read
pub not_read : {T P : Type 0} (r : Result T RunFault) → IsErrAnd r (λ fault. fault ≡ RunFault.Write) → IsErrOf r RunFault.Read → P
not_read r is_write is_read = grind arith
