-- Calls that keep to their span, and the count of moved bytes.
use Rattle.mmem_core.proofs.Words.{◌+◌, ◌≤◌, ℕ, [], ◌∷◌, Some, None, refl, arith, Span, Contents, HandleTable, KeepsToSpan, CountsMoved}

-- a span stays handed out: later spans are after it
stays_handed_out : (old new : HandleTable) (before after : Contents) → KeepsToSpan old new before after
    → old.span.at + old.span.len ≤ before.carved → new.span.at + new.span.len ≤ after.carved
stays_handed_out old new before after keeps within = grind arith

module _ (span : Span) where
  abbrev table : ℕ → ℕ → HandleTable
  table at slid =
      record {
        span = span;
        quotas = record { each = None; owners = 17 };
        places = Some (record { at = 0; len = 5 }) ∷ None ∷ Some (record { at = at; len = 6 }) ∷ [];
        slid = slid;
      }

  -- the second block slides from 20 to 8: its 6 bytes count as 8
  counts_rounded : CountsMoved (table 20 3) (table 8 11)
  counts_rounded = refl

  counts_no_lengths : CountsMoved (table 20 3) (table 8 9) → ⊥
  counts_no_lengths counts = grind arith

  -- a block that stays adds nothing
  counts_none : CountsMoved (table 8 3) (table 8 3)
  counts_none = refl

  counts_no_call : CountsMoved (table 8 3) (table 8 4) → ⊥
  counts_no_call counts = grind arith

  -- the count stays at the highest number
  stays_highest : CountsMoved (table 20 18_446_744_073_709_551_614) (table 8 18_446_744_073_709_551_615)
  stays_highest = refl
