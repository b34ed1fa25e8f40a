-- Each number below 256 is in a table, at 8 times itself: all are tried. Further ones are made of two such numbers.
use Rattle.std.proofs.Common.{◌≡◌, ◌+◌, ◌*◌, ◌/◌, ◌%◌, ◌<◌, ◌≤◌, ◌++◌, [], ◌∷◌, ℕ, List, Bool, true, ◌&&◌, ◌==◌, decimal, codes, drop, length, nat_le, slice_index, take, refl, sym, ap, ◌∙◌, arith}
use Rattle.std.specs.Fmt.{digits}
use Rattle.std.specs.Str.{bytes_eq}
use Rattle.std.proofs.lemmas.Bool.{eqb-true}
use Rattle.std.proofs.lemmas.Fmt.{decimal_digit, decimal_step}
use Rattle.std.proofs.lemmas.List.{append_assoc, drop-drop, take-take, take_at}
use Rattle.std.proofs.lemmas.Slice.Eq.{bytes_eq-Decides}
use Rattle.mote_text.specs.Code.SmallNumbers.{HasSmallNumbers}
use Rattle.mote_text.proofs.Common.{and_parts}
use Rattle.mote_text.proofs.EachByte.{holds_at, holds_below}

abbrev is_right : List ℕ → ℕ → Bool
is_right table n =
    bytes_eq (take (length (decimal n) + 1) (drop (8 * n) table)) (decimal n ++ codes " ")
    && slice_index table (8 * n + 4) == length (decimal n) + 1

pub all_in : (table : List ℕ) → holds_below (is_right table) 256 ≡ true → HasSmallNumbers table
all_in table right n below =
    let parts = and_parts _ _ (holds_at (is_right table) 256 n right below) in
    ((bytes_eq-Decides _ _).0 parts.0, eqb-true _ _ parts.1)

abbrev is_narrow : ℕ → Bool
is_narrow n = nat_le (length (decimal n)) 3

all_narrow : holds_below is_narrow 256 ≡ true
unfolding digits
all_narrow = refl

pub narrow : (n : ℕ) → n < 256 → length (decimal n) ≤ 3
narrow n below = grind (arith, holds_at is_narrow 256 n all_narrow below)

-- the digits alone
pub digits_in : (table : List ℕ) → HasSmallNumbers table → (n : ℕ) → n < 256 → take (length (decimal n)) (drop (8 * n) table) ≡ decimal n
digits_in table right n below =
    sym (take-take (length (decimal n)) (length (decimal n) + 1) (drop (8 * n) table) (omega arith))
    ∙ ap (take (length (decimal n))) (right n below).0 ∙ take_at (decimal n) (codes " ") (length (decimal n)) refl

three_digits : (n : ℕ) → 100 ≤ n → n < 1000 → decimal n ≡ (48 + n / 100) ∷ (48 + n / 10 % 10) ∷ (48 + n % 10) ∷ []
three_digits n low high =
    let first : n / 10 / 10 ≡ n / 100 = omega arith in
    rw (
      decimal_step n (omega (arith, low)) (omega (arith, high)),
      decimal_step (n / 10) (omega (arith, low)) (omega (arith, high)),
      first,
      decimal_digit (n / 100) (omega (arith, high)),
    ) refl

after_first : (bytes : List ℕ) → drop 1 (take 4 bytes) ≡ take 3 (drop 1 bytes)
after_first [] = refl
after_first (byte ∷ bytes) = refl

-- the last two digits and the blank of a number from 100 to 199
pub last_digits_in : (table : List ℕ) → HasSmallNumbers table → (n : ℕ) → n < 100 →
    take 3 (drop (8 * (100 + n) + 1) table) ≡ (48 + n / 10) ∷ (48 + n % 10) ∷ 32 ∷ []
last_digits_in table right n below =
    let digits : decimal (100 + n) ≡ 49 ∷ (48 + n / 10) ∷ (48 + n % 10) ∷ [] =
    let first : (100 + n) / 100 ≡ 1 = omega (arith, below) in
    let second : (100 + n) / 10 % 10 ≡ n / 10 = omega (arith, below) in
    let third : (100 + n) % 10 ≡ n % 10 = omega (arith, below) in
    rw (three_digits (100 + n) (omega arith) (omega (arith, below)), first, second, third) refl
    in
    let from = drop (8 * (100 + n)) table in
    let whole : take 4 from ≡ 49 ∷ (48 + n / 10) ∷ (48 + n % 10) ∷ 32 ∷ [] =
    ap (λ size. take (size + 1) from) (sym (ap length digits)) ∙ (right (100 + n) (omega (arith, below))).0
    ∙ ap (λ text. text ++ codes " ") digits
    in
    ap (take 3) (sym (drop-drop 1 (8 * (100 + n)) table)) ∙ sym (after_first from) ∙ ap (drop 1) whole

-- the digits before the last two, and those
split_digits : (n : ℕ) → 100 ≤ n → n < 10000 → decimal n ≡ decimal (n / 100) ++ (48 + n % 100 / 10) ∷ (48 + n % 100 % 10) ∷ []
split_digits n low high =
    let first : n / 10 / 10 ≡ n / 100 = omega arith in
    let second : n / 10 % 10 ≡ n % 100 / 10 = omega arith in
    let third : n % 10 ≡ n % 100 % 10 = omega arith in
    rw (decimal_step n (omega (arith, low)) (omega (arith, high)), decimal_step (n / 10) (omega (arith, low)) (omega (arith, high)), first, second, third)
    (append_assoc (decimal (n / 100)) ((48 + n % 100 / 10) ∷ []) ((48 + n % 100 % 10) ∷ []))

pub with_last_digits : (n : ℕ) → 100 ≤ n → n < 10000 →
    decimal (n / 100) ++ (48 + n % 100 / 10) ∷ (48 + n % 100 % 10) ∷ 32 ∷ [] ≡ decimal n ++ codes " "
with_last_digits n low high =
    sym (append_assoc (decimal (n / 100)) ((48 + n % 100 / 10) ∷ (48 + n % 100 % 10) ∷ []) (codes " "))
    ∙ ap (λ digits. digits ++ codes " ") (sym (split_digits n low high))
