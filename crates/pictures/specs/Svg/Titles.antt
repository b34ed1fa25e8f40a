-- What a picture shows of a transcript's lines: which are shown, the rows that they are in, and the title of each row.
use Rattle.std.specs.Prelude.{◌≡◌, ℕ, ◌+◌, ◌-◌, ◌^◌, ◌≤◌, Bool, List, [], ◌∷◌, ◌++◌, flat_map, length, take, All, slice_range, slice_index_or, codes, decimal}
use Rattle.std.specs.Bool.{OnTrue}
use Rattle.pictures.specs.declared.svg.markup.names.Tag.{Tag}
use Rattle.pictures.specs.Svg.Markup.{AreAttributes, IsContent, element_text}
use Rattle.pictures.specs.Svg.Parts.{Parts, text_of}
use Rattle.pictures.specs.Svg.Elements.{title_element}
use Rattle.pictures.specs.declared.rows.row.Row.{Row}
use Rattle.pictures.specs.declared.rows.row.Show.{Show}
use Rattle.pictures.specs.declared.rows.Shown.{Shown}
use Rattle.pictures.specs.Clocks.{LieBetween}
use Rattle.pictures.specs.Rows.{Cover, IsTrueRow}

-- the lines, a line end after each
abbrev pub ended_lines : List (List ℕ) → List ℕ
ended_lines lines = flat_map (λ line. line ++ codes "\n") lines

-- what folded lines tell: their numbers, from 1 on, how many they are, and the first one
abbrev pub folded_title : ℕ → ℕ → List ℕ → List ℕ
folded_title first count line =
    codes "lines " ++ decimal (first + 1) ++ codes " to " ++ decimal (first + count) ++ codes ", " ++ decimal count
    ++ codes " in all; the first: " ++ line

-- what lines say, a number of them from one on: all of them, where they aren't folded
abbrev pub title_by : Show → List (List ℕ) → ℕ → ℕ → List ℕ
title_by Show.Lines lines first count = ended_lines (slice_range lines first (first + count))
title_by Show.Ticks lines first count = folded_title first count (slice_index_or lines first [])
title_by (Show.Again _) lines first count = folded_title first count (slice_index_or lines first [])

abbrev pub title_of : List (List ℕ) → Row → List ℕ
title_of lines row = title_by row.show lines row.first row.count

-- the ground of a row: a rectangle with the row's title inside
pub record IsGround (lines : List (List ℕ)) (row : Row) (element : Parts) : Type 0 where
  pub tag : element.tag ≡ Tag.Rect
  pub attributes : AreAttributes element.attributes
  pub title : element.inside ≡ text_of (title_element (title_of lines row))

-- the grounds of rows, one after the other
pub data AreGrounds (lines : List (List ℕ)) : List Row → List ℕ → Type 0 where
  none : AreGrounds lines [] []
  one_more : {rows : List Row} {before : List ℕ} → AreGrounds lines rows before → (row : Row) (element : Parts) → IsGround lines row element
      → AreGrounds lines (rows ++ row ∷ []) (before ++ text_of element)

-- a picture: one element, with what is under the rows' grounds, these, and what is over them
pub record IsDrawn (under grounds over picture : List ℕ) : Type 0 where
  pub attributes : List ℕ
  pub are_attributes : AreAttributes attributes
  pub is_under : IsContent under
  pub is_over : IsContent over
  pub whole : picture ≡ element_text Tag.Svg attributes (under ++ grounds ++ over)

-- the picture has a ground for each of the rows, in order
pub record ShowsRows (lines : List (List ℕ)) (rows : List Row) (picture : List ℕ) : Type 0 where
  pub under : List ℕ
  pub grounds : List ℕ
  pub over : List ℕ
  pub are_grounds : AreGrounds lines rows grounds
  pub is_drawn : IsDrawn under grounds over picture

-- the lines that are shown between two clocks: those at which the clock is between them, with the widest range all lines
pub record AreShown (lines : List (List ℕ)) (from to : ℕ) (shown : Shown) : Type 0 where
  pub order : shown.first ≤ shown.end
  pub there : shown.end ≤ length lines
  pub first : from ≡ 0 → shown.first ≡ 0
  pub last : to ≡ 2 ^ 64 - 1 → shown.end ≡ length lines
  pub between : LieBetween lines from to shown

-- the picture of the lines between two clocks: each line that is shown is in exactly one row, in order; where nothing is folded,
-- the rows' titles, one after the other, are these lines; lines that are shown as being there again are there again
pub record IsPicture (lines : List (List ℕ)) (from to : ℕ) (unfolded : Bool) (picture : List ℕ) : Type 0 where
  pub shown : Shown
  pub are_shown : AreShown lines from to shown
  pub rows : List Row
  pub cover : Cover shown.first rows shown.end
  pub shows_rows : ShowsRows lines rows picture
  pub lines_back : OnTrue unfolded (flat_map (title_of lines) rows ≡ ended_lines (slice_range lines shown.first shown.end))
  pub again : All (IsTrueRow (take shown.end lines)) rows
