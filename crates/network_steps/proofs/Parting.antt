-- Where a line is parted.
use Rattle.std.proofs.Common.{◌≡◌, ◌+◌, ◌<◌, ℕ, zero, suc, Bool, true, false, List, [], ◌∷◌, ◌==◌, length, take, drop, refl, None, Some, arith, add-one}
use Rattle.memchr.specs.Find.{Nowhere, Passes, is_byte}
use Rattle.network_steps.specs.NetworkScript.{parted}

not_true : (b : Bool) → (b ≡ true → ⊥) → b ≡ false
not_true true apart = absurd (apart refl)
not_true false apart = refl

-- none of these bytes is a space
pub parted_none : (line : List ℕ) → Nowhere (Passes (is_byte 32) line) 0 (length line) → parted line ≡ None
parted_none [] none = refl
parted_none (byte ∷ line) none =
    let apart : (byte == 32) ≡ false = not_true (byte == 32) (λ is. none 0 (omega arith) (omega arith) is) in
    rw (apart, parted_none line (λ k low high is. none (suc k) (omega arith) (omega arith) is)) refl

-- this is the first space
parted_before : (line : List ℕ) (k : ℕ) → k < length line → Nowhere (Passes (is_byte 32) line) 0 k → Passes (is_byte 32) line k →
    parted line ≡ Some (take k line, drop (suc k) line)
parted_before [] k inside none here = absurd (omega arith)
parted_before (byte ∷ line) zero inside none here = let yes : (byte == 32) ≡ true = here in rw yes refl
parted_before (byte ∷ line) (suc k) inside none here =
    let apart : (byte == 32) ≡ false = not_true (byte == 32) (λ is. none 0 (omega arith) (omega arith) is) in
    rw (apart, parted_before line k (omega arith) (λ j low high is. none (suc j) (omega arith) (omega arith) is) here) refl

pub parted_at : (line : List ℕ) (k : ℕ) → k < length line → Nowhere (Passes (is_byte 32) line) 0 k → Passes (is_byte 32) line k →
    parted line ≡ Some (take k line, drop (k + 1) line)
parted_at line k inside none here = rw add-one (parted_before line k inside none here)
