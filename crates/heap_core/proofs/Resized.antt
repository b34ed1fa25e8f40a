-- The bytes of a resized block.
use Rattle.heap_core.proofs.Lemmas.Words.{◌≡◌, ℕ, ◌+◌, ◌-◌, ◌≤◌, List, [], ◌++◌, length, take, slice_range, arith, append-nil, take-append-le, take-take, take-replicate, drop-replicate, zeros, resized, written, length-range, take_past, written-range, written_is}

-- a prefix of a range
pub front_range : (xs : List ℕ) (at m n : ℕ) → n ≤ m → take n (slice_range xs at (at + m)) ≡ slice_range xs at (at + n)
front_range xs at m n le = grind (arith, take-take)

pub resized_shorter : (xs : List ℕ) (at m n : ℕ) → n ≤ m → at + m ≤ length xs
    → resized n (slice_range xs at (at + m)) ≡ slice_range xs at (at + n)
resized_shorter xs at m n le within = grind (arith, take-append-le, length-range, front_range)

pub resized_longer : (xs : List ℕ) (n : ℕ) → length xs ≤ n → resized n xs ≡ xs ++ zeros (n - length xs)
resized_longer xs n le = grind (arith, take_past, take-replicate)

pub resized_none : (n : ℕ) → resized n [] ≡ zeros n
resized_none n = grind (arith, take-replicate)

-- bytes written over the first of n zeros
pub copied_front : (xs : List ℕ) (at n : ℕ) (ws : List ℕ) → length ws ≤ n → at + n ≤ length xs → slice_range xs at (at + n) ≡ zeros n
    → slice_range (written xs at ws) at (at + n) ≡ ws ++ zeros (n - length ws)
copied_front xs at n ws le within fresh = let start : at ≡ at + 0 = omega arith in
    grind (
      arith,
      drop-replicate,
      written_is (slice_range xs at (at + n)) 0 ws (omega (arith, length-range xs at n within)),
      written-range xs at n 0 ws (omega arith) within,
    )

pub resized_copy : (xs : List ℕ) (at m n k : ℕ) → at + m ≤ length xs → (m ≤ n → k ≡ m) → (n ≤ m → k ≡ n)
    → slice_range xs at (at + k) ++ zeros (n - k) ≡ resized n (slice_range xs at (at + m))
resized_copy xs at m n k within shorter longer = grind (arith, length-range, resized_longer, append-nil, resized_shorter)
