-- Examples: lines between two clocks, and lines that repeat.
use Rattle.std.proofs.Common.{◌≡◌, ◌<◌, ◌≤◌, ℕ, List, [], ◌∷◌, codes, refl, arith}
use Rattle.pictures.specs.declared.rows.row.Row.{Row}
use Rattle.pictures.specs.declared.rows.row.Show.{Show}
use Rattle.pictures.specs.Clocks.{LieBetween, clock_at}
use Rattle.pictures.specs.Rows.{AreAgain, Cover, IsPlain, IsTrueRow}

abbrev lines : List (List ℕ)
lines = codes "4 synch 129 - -> wait" ∷ codes "> tick 5" ∷ codes "> serial 61" ∷ codes "> tick 4" ∷ []

at_first : clock_at lines 0 ≡ 0
at_first = refl

-- a line's own ticks have passed at it
at_ticks : clock_at lines 1 ≡ 5
at_ticks = refl

at_serial : clock_at lines 2 ≡ 5
at_serial = refl

at_last : clock_at lines 3 ≡ 9
at_last = refl

-- from clock 5 to clock 5, without the last line
no_other : LieBetween lines 5 5 (record { first = 1; end = 4 }) → ⊥
no_other is = let most : 9 ≤ 5 = (is.within 3 (omega arith) (omega arith)).1 in absurd (omega arith)

none_missing : LieBetween lines 5 5 (record { first = 2; end = 3 }) → ⊥
none_missing is = let less : 5 < 5 = is.before 1 (omega arith) in absurd (omega arith)

none_after : LieBetween lines 0 9 (record { first = 0; end = 3 }) → ⊥
none_after is = let more : 9 < 9 = is.after 3 (omega arith) (omega arith) in absurd (omega arith)

not_again : AreAgain lines 1 1 2 → ⊥
not_again is = let same = is 1 (omega arith) (omega arith) in cc

-- each line is in one row
abbrev row : ℕ → ℕ → Row
row first count = record { first = first; count = count; show = Show.Lines }

one_left_out : Cover 0 (row 0 1 ∷ row 2 1 ∷ []) 3 → ⊥
one_left_out covered = let second_is_third : ◌≡◌ {A = ℕ} 2 1 = covered.2.0 in absurd (omega arith)

none_in_a_row : Cover 0 (row 0 0 ∷ []) 0 → ⊥
none_in_a_row covered = let some : 0 < 0 = covered.1 in absurd (omega arith)

too_few : Cover 0 (row 0 1 ∷ []) 2 → ⊥
too_few covered = let one_is_two : ◌≡◌ {A = ℕ} 1 2 = covered.2 in absurd (omega arith)

folded : IsPlain (row 0 2) → ⊥
folded plain = let two_is_one : ◌≡◌ {A = ℕ} 2 1 = plain.0 in absurd (omega arith)

-- so no row shows it as such
no_true_row : IsTrueRow lines (record { first = 1; count = 1; show = Show.Again 1 }) → ⊥
no_true_row is = not_again is
