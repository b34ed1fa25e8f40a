-- Examples: titles.
use Rattle.std.proofs.Common.{◌≡◌, ◌≤◌, ◌-◌, ◌^◌, ℕ, Bool, true, List, [], ◌∷◌, All, codes, flat_map, refl, arith, slice_range, take}
use Rattle.std.specs.Fmt.{digits}
use Rattle.pictures.specs.declared.rows.row.Show.{Show}
use Rattle.pictures.specs.Rows.{Cover, IsTrueRow}
use Rattle.pictures.specs.Svg.Titles.{AreShown, IsPicture, ShowsRows, ended_lines, title_of}

abbrev lines : List (List ℕ)
lines = codes "> tick 1" ∷ codes "> tick 2" ∷ codes "> tick 3" ∷ codes "halt" ∷ []

-- the last two lines
raw : title_of lines (record { first = 2; count = 2; show = Show.Lines }) ≡ codes "> tick 3\nhalt\n"
raw = refl

-- ticks from the second line on
ticks : title_of lines (record { first = 1; count = 2; show = Show.Ticks }) ≡ codes "lines 2 to 3, 2 in all; the first: > tick 2"
unfolding digits
ticks = refl

-- lines that repeat
again : title_of lines (record { first = 0; count = 3; show = Show.Again 1 }) ≡ codes "lines 1 to 3, 3 in all; the first: > tick 1"
unfolding digits
again = refl

-- Clock 1 is at the first line, 3 at the second, 6 at the last two.

beyond : AreShown lines 1 3 (record { first = 0; end = 4 }) → ⊥
beyond is = let over : 6 ≤ 3 = (is.between.within 2 (omega arith) (omega arith)).1 in absurd (omega arith)

first_left_out : AreShown lines 0 6 (record { first = 1; end = 4 }) → ⊥
first_left_out is = let first_is_second : ◌≡◌ {A = ℕ} 1 0 = is.first refl in absurd (omega arith)

last_left_out : AreShown lines 0 (2 ^ 64 - 1) (record { first = 0; end = 3 }) → ⊥
last_left_out is = let three_is_four : ◌≡◌ {A = ℕ} 3 4 = is.last refl in absurd (omega arith)

no_such_line : AreShown lines 0 6 (record { first = 0; end = 5 }) → ⊥
no_such_line is = let over : 5 ≤ 4 = is.there in absurd (omega arith)

ends_before : AreShown lines 7 8 (record { first = 4; end = 3 }) → ⊥
ends_before is = let before : 4 ≤ 3 = is.order in absurd (omega arith)

module _ (from to : ℕ) (unfolded : Bool) (picture : List ℕ) (is : IsPicture lines from to unfolded picture) where
  shows_the_lines_between : AreShown lines from to is.shown
  shows_the_lines_between = is.are_shown

  each_in_one_row : Cover is.shown.first is.rows is.shown.end
  each_in_one_row = is.cover

  has_grounds : ShowsRows lines is.rows picture
  has_grounds = is.shows_rows

  tells_no_other_lines_again : All (IsTrueRow (take is.shown.end lines)) is.rows
  tells_no_other_lines_again = is.again

tells_all_lines : (from to : ℕ) (picture : List ℕ) (is : IsPicture lines from to true picture)
    → flat_map (title_of lines) is.rows ≡ ended_lines (slice_range lines is.shown.first is.shown.end)
tells_all_lines from to picture is = is.lines_back
