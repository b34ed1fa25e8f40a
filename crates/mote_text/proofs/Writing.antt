-- Text written in pieces.
use Rattle.std.proofs.Common.{◌≡◌, ◌+◌, ◌-◌, ℕ, List, [], ◌++◌, length, take, drop, length-drop, refl, ap, sym, ◌∙◌, append_assoc, take-append-drop, arith, subst, Result, Ok, Err, IsErr}
use Rattle.std.proofs.Math.Seq.{take-add}
use Rattle.mote_text.proofs.Common.{append-nil, nat_tests, take_all}
use Rattle.mote_text.specs.Code.Writing.{WritesIf, WritesOn}

-- a prefix of the bytes was written, then a prefix of the rest
pub given_on : (before now later bytes : List ℕ) (n m : ℕ) → now ≡ before ++ take n bytes →
    later ≡ now ++ take m (take (length bytes - n) (drop n bytes)) → later ≡ before ++ take (n + m) bytes
given_on before now later bytes n m first second = grind (arith, nat_tests, append_assoc, length-drop, take_all, take-add)

-- nothing was written, and more is pending
pub put_after : (given pending more : List ℕ) → WritesOn given pending given (pending ++ more) more
put_after given pending more = record { out = []; given = sym (append-nil given); parted = refl }

pub nothing_more : (given pending : List ℕ) → WritesOn given pending given pending []
nothing_more given pending = record { out = []; given = sym (append-nil given); parted = append-nil pending }

pub prefix_written : (given_old pending given_new : List ℕ) (n : ℕ) → given_new ≡ given_old ++ take n pending
    → WritesOn given_old pending given_new (drop n pending) []
prefix_written given_old pending given_new n given =
    record { out = take n pending; given = given; parted = append-nil pending ∙ sym (take-append-drop n pending) }

pub then_written : {g₀ d₀ g₁ d₁ m₁ g₂ d₂ m₂ : List ℕ} → WritesOn g₀ d₀ g₁ d₁ m₁ → WritesOn g₁ d₁ g₂ d₂ m₂ → WritesOn g₀ d₀ g₂ d₂ (m₁ ++ m₂)
then_written {g₀} {d₀} {g₁} {d₁} {m₁} {g₂} {d₂} {m₂} first second = record {
  out = first.out ++ second.out;
  given = second.given ∙ (ap (λ v. v ++ second.out) first.given ∙ append_assoc g₀ first.out second.out);
  parted =
      sym (append_assoc d₀ m₁ m₂)
      ∙ (ap (λ v. v ++ m₂) first.parted
      ∙ (append_assoc first.out d₁ m₂
      ∙ (ap (λ v. first.out ++ v) second.parted
      ∙ sym (append_assoc first.out second.out d₂))));
}

-- what would have been put after text that was lost is lost, too
pub lost_then : {g₀ d₀ g₁ lost m₁ : List ℕ} (m₂ : List ℕ) → WritesOn g₀ d₀ g₁ lost m₁ → WritesOn g₀ d₀ g₁ (lost ++ m₂) (m₁ ++ m₂)
lost_then {g₁ = g₁} {lost = lost} m₂ w = then_written w (put_after g₁ lost m₂)

-- the same text
pub written_as : {g₀ d₀ g₁ d₁ text same : List ℕ} → text ≡ same → WritesOn g₀ d₀ g₁ d₁ text → WritesOn g₀ d₀ g₁ d₁ same
written_as {g₀} {d₀} {g₁} {d₁} e w = subst (λ (t : List ℕ). WritesOn g₀ d₀ g₁ d₁ t) e w

module _ {T E : Type 0} where
  -- what was written before a fault, and what is lost
  pub writes_lost : (result : Result T E) {g₀ d₀ g₁ lost text : List ℕ} (d₁ : List ℕ) → IsErr result → WritesOn g₀ d₀ g₁ lost text
      → WritesIf result g₀ d₀ g₁ d₁ text
  writes_lost (Ok x) d₁ is w = absurd (cc)
  writes_lost (Err fault) {lost = lost} d₁ is w = (lost, w)

  -- after a part that was put, more is put; or the first part was lost, and the other with it
  pub writes_then : (second : Result T E) (g₀ d₀ g₁ d₁ m₁ g₂ d₂ m₂ : List ℕ) → WritesOn g₀ d₀ g₁ d₁ m₁ → WritesIf second g₁ d₁ g₂ d₂ m₂
      → WritesIf second g₀ d₀ g₂ d₂ (m₁ ++ m₂)
  writes_then (Ok x) g₀ d₀ g₁ d₁ m₁ g₂ d₂ m₂ w p = then_written w p
  writes_then (Err e) g₀ d₀ g₁ d₁ m₁ g₂ d₂ m₂ w p = (p.0, then_written w p.1)

  pub writes_as : (result : Result T E) (g₀ d₀ g₁ d₁ text same : List ℕ) → text ≡ same → WritesIf result g₀ d₀ g₁ d₁ text
      → WritesIf result g₀ d₀ g₁ d₁ same
  writes_as (Ok x) g₀ d₀ g₁ d₁ text same e w = written_as e w
  writes_as (Err fault) g₀ d₀ g₁ d₁ text same e w = (w.0, written_as e w.1)
