-- The end of a line among the bytes of a piece.
use Rattle.std.proofs.Common.{◌≡◌, ◌<◌, ◌≤◌, ℕ, Bool, true, false, not, List, ◌++◌, ◌==◌, length, get_or, take, refl, arith, min, nat_le}
use Rattle.std.proofs.lemmas.List.{get_or-take, get_or_default}
use Rattle.std.proofs.lemmas.List.Sums.{list_all-from_AllPass}
use Rattle.std.proofs.lemmas.Option.{slice_get-get_or}
use Rattle.mote_text.proofs.Common.{length-take, nat_tests, take_all, list_all-append}
use Rattle.memchr.specs.Find.{Nowhere, Passes, is_byte}
use Rattle.mote_text.specs.Code.Lines.{has_no_end, GoesOnAt}

pub no_end_append : (bytes more : List ℕ) → has_no_end bytes ≡ true → has_no_end more ≡ true → has_no_end (bytes ++ more) ≡ true
no_end_append bytes more none nor = grind (arith, list_all-append)

pub no_end_before : (bytes : List ℕ) (k : ℕ) → k ≤ length bytes → Nowhere (Passes (is_byte 10) bytes) 0 k → has_no_end (take k bytes) ≡ true
no_end_before bytes k h none =
    list_all-from_AllPass (λ byte. not (byte == 10)) (take k bytes)
    (λ i d inside. grind (arith, nat_tests, length-take, get_or-take, get_or_default))

-- a prefix of a piece, of at most n bytes
pub take_few : (n k : ℕ) (piece : List ℕ) (is_short : Bool) → nat_le (length piece) n ≡ is_short → k ≡ min (length piece) n
    → take n piece ≡ take k piece
take_few n k piece true test e =
    let short : length piece ≤ n = grind (arith, nat_tests) in
    let same : k ≡ length piece = omega (arith, short, e) in
    rw (same, take_all n piece short, take_all (length piece) piece (omega arith)) refl
take_few n k piece false test e = grind (arith, nat_tests)

-- without a line end at a position, the line goes on there
pub goes_on_at : (piece : List ℕ) (m k : ℕ) → k < m → m ≤ length piece → (Passes (is_byte 10) (take m piece) k → ⊥) → GoesOnAt piece k
goes_on_at piece m k below most none = (
  get_or piece k 0,
  slice_get-get_or piece k 0 (omega arith),
  λ is. none (rw (get_or-take m piece k 0 below, is) refl),
)
