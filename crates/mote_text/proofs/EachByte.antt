-- What holds of each byte: all are tried.
use Rattle.std.proofs.Common.{◌≡◌, ◌<◌, ℕ, zero, suc, Bool, true, ◌&&◌, inl, inr, arith}
use Rattle.mote_text.proofs.Common.{and_parts, cases_lt}

abbrev pub holds_below : (ℕ → Bool) → ℕ → Bool
holds_below holds zero = true
holds_below holds (suc n) = holds n && holds_below holds n

pub holds_at : (holds : ℕ → Bool) (m n : ℕ) → holds_below holds m ≡ true → n < m → holds n ≡ true
holds_at holds zero n all below = absurd (omega arith)
holds_at holds (suc m) n all below =
    let parts = and_parts (holds m) (holds_below holds m) all in
    elim (cases_lt n m) [
      | inl earlier ↦ holds_at holds m n parts.1 earlier
      | inr top ↦
          let is_top : n ≡ m = omega arith in
          rw is_top parts.0
    ]
