-- Rows with consecutive lines, and their titles.
use Rattle.std.proofs.Common.{◌≡◌, ℕ, ◌+◌, ◌-◌, ◌<◌, ◌≤◌, Bool, List, [], ◌∷◌, ◌++◌, drop, take, All, flat_map, refl, subst, arith, slice_range}
use Rattle.std.proofs.lemmas.List.{drop-drop, take-map, drop-map}
use Rattle.std.proofs.lemmas.Bool.{OnTrue_at, OnTrue_from}
use Rattle.std.specs.Bool.{OnTrue}
use Rattle.std.proofs.lemmas.List.Elements.{All-nil, All-cons, All-head, All-tail}
use Rattle.std.proofs.lemmas.Grind.{flat_map-append}
use Rattle.std.proofs.Math.Seq.{take-add}
use denote.Ref.{Bor}
use Rattle.pictures.specs.declared.rows.row.Row.{Row}
use Rattle.pictures.specs.declared.rows.row.Show.{Show}
use Rattle.pictures.specs.declared.rows.Shown.{Shown}
use Rattle.pictures.specs.Rows.{Cover, IsPlain, IsTrueRow, bytes_of}
use Rattle.pictures.specs.Svg.Titles.{title_by, title_of, ended_lines, AreShown, ShowsRows, IsPicture}

Cover-order : (first : ℕ) (rows : List Row) (end : ℕ) → Cover first rows end → first ≤ end
Cover-order first [] end covered = omega (arith, covered)
Cover-order first (row ∷ rows) end covered = omega (arith, Cover-order (first + row.count) rows end covered.2)

-- each has lines, which exist
pub Cover-within : (count first : ℕ) (rows : List Row) (end : ℕ) → Cover first rows end → end ≤ count
    → All (λ row. (0 < row.count) × (row.first + row.count ≤ count)) rows
Cover-within count first [] end covered there = All-nil (λ row. (0 < row.count) × (row.first + row.count ≤ count))
Cover-within count first (row ∷ rows) end covered there =
    let rest : first + row.count ≤ end = Cover-order (first + row.count) rows end covered.2 in
    All-cons (λ row. (0 < row.count) × (row.first + row.count ≤ count)) row rows (covered.1, omega (arith, covered.0))
    (Cover-within count (first + row.count) rows end covered.2 there)

slice_range-split : {X : Type 0} (xs : List X) (a b c : ℕ) → a ≤ b → b ≤ c → slice_range xs a c ≡ slice_range xs a b ++ slice_range xs b c
slice_range-split xs a b c order there =
    let count : c - a ≡ (b - a) + (c - b) = omega arith in
    let whole : a + (b - a) ≡ b = omega arith in
    rw (count, take-add (b - a) (c - b) (drop a xs), drop-drop (b - a) a xs, whole) refl

-- the title of a row of one line is that line
plain_title : (show : Show) (lines : List (List ℕ)) (first at count : ℕ) → show ≡ Show.Lines → at ≡ first → count ≡ 1
    → title_by show lines at count ≡ ended_lines (slice_range lines first (first + 1))
plain_title Show.Lines lines first at count plain begins one = rw (begins, one) refl
plain_title Show.Ticks lines first at count plain begins one = cc
plain_title (Show.Again period) lines first at count plain begins one = cc

-- the titles of rows of one line each are the lines
pub titles-plain : (lines : List (List ℕ)) (first : ℕ) (rows : List Row) (end : ℕ) → Cover first rows end → All IsPlain rows
    → flat_map (title_of lines) rows ≡ ended_lines (slice_range lines first end)
titles-plain lines first [] end covered plain = let none : end - first ≡ 0 = omega (arith, covered) in rw none refl
titles-plain lines first (row ∷ rows) end covered plain =
    let here : IsPlain row = All-head IsPlain row rows plain in
    let next : Cover (first + 1) rows end = rw here.0 at covered.2 in
    let there : first + 1 ≤ end = Cover-order (first + 1) rows end next in
    let front : title_of lines row ≡ ended_lines (slice_range lines first (first + 1)) =
    plain_title row.show lines first row.first row.count here.1 covered.0 here.0 in
    let back : flat_map (title_of lines) rows ≡ ended_lines (slice_range lines (first + 1) end) =
    titles-plain lines (first + 1) rows end next (All-tail IsPlain row rows plain) in
    rw (front, back, slice_range-split lines first (first + 1) end (omega arith) there, flat_map-append) refl

-- the bytes of a range of lines
pub bytes_of-slice_range : (lines : List (Bor (List ℕ))) (a b : ℕ) → bytes_of (slice_range lines a b) ≡ slice_range (bytes_of lines) a b
bytes_of-slice_range lines a b =
    rw (drop-map (λ (line : Bor (List ℕ)). line.now) a lines, take-map (λ (line : Bor (List ℕ)). line.now) (b - a) (drop a lines)) refl

-- the title of unfolded lines has them all
title_by-lines : (show : Show) (lines : List (Bor (List ℕ))) (first count : ℕ) → show ≡ Show.Lines
    → ended_lines (bytes_of (slice_range lines first (first + count))) ≡ title_by show (bytes_of lines) first count
title_by-lines Show.Lines lines first count all = rw (bytes_of-slice_range lines first (first + count)) refl
title_by-lines Show.Ticks lines first count all = cc
title_by-lines (Show.Again period) lines first count all = cc

pub title_of-lines : (lines : List (Bor (List ℕ))) (row : Row) → row.show ≡ Show.Lines
    → ended_lines (bytes_of (slice_range lines row.first (row.first + row.count))) ≡ title_of (bytes_of lines) row
title_of-lines lines row all = title_by-lines row.show lines row.first row.count all

take-bytes : (lines : List (Bor (List ℕ))) (count : ℕ) → bytes_of (take count lines) ≡ take count (bytes_of lines)
take-bytes lines count = rw (take-map (λ (line : Bor (List ℕ)). line.now) count lines) refl

-- such rows and titles make the picture of the lines shown
pub picture-shown : (lines : List (Bor (List ℕ))) (from to : ℕ) (unfolded : Bool) (shown : Shown) (rows : List Row) (picture : List ℕ)
    → AreShown (bytes_of lines) from to shown → Cover shown.first rows shown.end → OnTrue unfolded (All IsPlain rows)
    → All (IsTrueRow (bytes_of (take shown.end lines))) rows → ShowsRows (bytes_of lines) rows picture
    → IsPicture (bytes_of lines) from to unfolded picture
picture-shown lines from to unfolded shown rows picture are_shown cover plain again shows_rows = record {
  shown = shown;
  are_shown = are_shown;
  rows = rows;
  cover = cover;
  shows_rows = shows_rows;
  lines_back = OnTrue_from unfolded _ (λ is. titles-plain (bytes_of lines) shown.first rows shown.end cover (OnTrue_at is plain));
  again = subst (λ texts. All (IsTrueRow texts) rows) (take-bytes lines shown.end) again;
}
