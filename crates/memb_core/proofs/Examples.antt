-- A call that keeps to its span.
use Rattle.memb_core.proofs.Words.{◌+◌, ◌≤◌, arith, Contents, KeepsToSpan, PoolTable}

-- a span stays handed out: later spans are after it
stays_handed_out : (old new : PoolTable) (before after : Contents) → KeepsToSpan old new before after
    → old.span.at + old.span.len ≤ before.carved → new.span.at + new.span.len ≤ after.carved
stays_handed_out old new before after keeps within = grind arith
