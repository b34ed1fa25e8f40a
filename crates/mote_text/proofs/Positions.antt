-- What is before a position of a buffer.
use Rattle.std.proofs.Common.{◌≡◌, ◌≤◌, ◌+◌, ◌++◌, ◌∙◌, ℕ, List, length, take, sym, ap, arith, length-take-le}
use Rattle.std.proofs.lemmas.List.{take-take, take-append-le}
use Rattle.std.proofs.Math.Seq.{take-append-add}

-- the first bytes of a block that was put
pub front_put : (old block rest : List ℕ) (at n len : ℕ) → at ≤ length old → len ≤ n → n ≤ length block →
    take (at + len) (take at old ++ (take n block ++ rest)) ≡ take at old ++ take len block
front_put old block rest at n len inside few whole =
    let before = take at old in
    ap (λ from. take (from + len) (before ++ (take n block ++ rest))) (sym (length-take-le at old inside))
    ∙ take-append-add before (take n block ++ rest) len
    ∙ ap (λ text. before ++ text) (take-append-le len (take n block) rest (omega (arith, length-take-le n block whole, few))
    ∙ take-take len n block few)
