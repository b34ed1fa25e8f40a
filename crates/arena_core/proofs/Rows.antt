-- A write to a range, as a list.
use Rattle.std.proofs.Common.{◌≡◌, ℕ, ◌+◌, ◌≤◌, List, ◌++◌, length, take, drop, sym, ap, ◌∙◌, arith, length-append, length-take, length-drop}
use Rattle.std.proofs.lemmas.List.{drop-drop, take_all, append_assoc, take-append-le, drop-append-le, take_at, drop_at, take-append-drop, length-take-le}
use Rattle.std.proofs.Math.Seq.{take-append-add, drop-append-add}
use Rattle.std.proofs.lemmas.Slice.{drop-put_mid}
use borrow.Rule.Slice.PartMut.{put_mid}
use Rattle.arena_core.specs.Code.Written.{written}
pub use Rattle.arena_core.specs.Code.Lending.{length-written}

-- if ws fits, it is between the bytes before and after the range
module _ (xs : List ℕ) (at : ℕ) (ws : List ℕ) (fits : at + length ws ≤ length xs) where
  written_mid : written xs at ws ≡ put_mid at (length ws) xs ws
  written_mid = grind (arith, take_all, length-take, length-append, length-drop)

  pub written_is : written xs at ws ≡ take at xs ++ (ws ++ drop (at + length ws) xs)
  written_is = grind (arith, written_mid, drop-drop)

  pub drop-written : (n : ℕ) → at + length ws ≤ n → drop n (written xs at ws) ≡ drop n xs
  drop-written n behind = grind (arith, written_mid, drop-put_mid)

pub written-append_left : (ps qs : List ℕ) (at : ℕ) (ws : List ℕ) → at + length ws ≤ length ps
    → written (ps ++ qs) at ws ≡ written ps at ws ++ qs
written-append_left ps qs at ws le = grind (arith, written_is, length-append, take-append-le, drop-append-le, append_assoc)

written-append_right : (ps qs : List ℕ) (at : ℕ) (ws : List ℕ) → written (ps ++ qs) (length ps + at) ws ≡ ps ++ written qs at ws
written-append_right ps qs at ws = simp (length-append, take-append-add, drop-append-add, append_assoc)

-- the bytes before n, or from n on, after a write on that side
module _ (xs : List ℕ) (n : ℕ) (within : n ≤ length xs) (at : ℕ) (ws : List ℕ) where
  front : length (take n xs) ≡ n
  front = length-take-le n xs within

  pub take-written : at + length ws ≤ n → take n (written xs at ws) ≡ written (take n xs) at ws
  take-written le = let l = front in
      ap (λ l. take n (written l at ws)) (sym (take-append-drop n xs))
      ∙ ap (take n) (written-append_left (take n xs) (drop n xs) at ws (omega arith))
      ∙ take_at (written (take n xs) at ws) (drop n xs) n (length-written (take n xs) at ws ∙ l)

  pub drop-written_in : drop n (written xs (n + at) ws) ≡ written (drop n xs) at ws
  drop-written_in = grind (arith, written-append_right (take n xs) (drop n xs) at ws, take-append-drop n xs, front, drop_at)
