-- The clock from row to row.
use Rattle.std.proofs.Common.{◌≡◌, ◌∙◌, ◌+◌, ℕ, List, [], ◌∷◌, ◌++◌, All, length, map, take, drop, Result, Ok, Err, IfOk, refl, ap, ap₂, subst, arith}
use Rattle.std.specs.List.{range_with_len}
use Rattle.std.proofs.lemmas.List.Elements.{All-head, All-tail}
use Rattle.pictures.specs.Clocks.{clock_after, clock_at, first_of, row_clock}
use Rattle.pictures.specs.Rows.{Cover, IsPlain}
use Rattle.pictures.specs.Spans.{AreMarks}
use Rattle.pictures.specs.declared.marks.Marks.{Marks}
use Rattle.pictures.specs.declared.rows.row.Row.{Row}

module _ (lines : List (List ℕ)) where
  -- n rows were taken; the clock before the next one
  pub record HasClocks (rows : List Row) (end : ℕ) (before : List ℕ) (index clock : ℕ) (clocks : List ℕ) : Type 0 where
    pub next : ℕ
    pub left : Cover next (drop index rows) end
    pub now : clock ≡ clock_after (take next lines)
    pub clocks_are : clocks ≡ before ++ map (row_clock lines) (take index rows)

  -- with one line for each row, the clocks are those of the lines
  pub plain_clocks : (rows : List Row) (first end : ℕ) → Cover first rows end → All IsPlain rows
      → map (row_clock lines) rows ≡ map (clock_at lines) (range_with_len first (length rows))
  plain_clocks [] first end covered plain = refl
  plain_clocks (row ∷ rows) first end covered plain =
      let one_line = All-head IsPlain row rows plain in
      let one : row.first + row.count ≡ first + 1 = omega (arith, covered.0, one_line.0) in
      let left : Cover (first + 1) rows end = subst (λ n. Cover n rows end) (ap (λ n. first + n) one_line.0) covered.2 in
      ap₂ (λ clock clocks. clock ∷ clocks) (ap (λ n. clock_after (take n lines)) one)
      (plain_clocks rows (first + 1) end left (All-tail IsPlain row rows plain))

-- then there are as many rows as lines
pub plain_count : (rows : List Row) (first end : ℕ) → Cover first rows end → All IsPlain rows → end ≡ first + length rows
plain_count [] first end covered plain = omega (arith, covered)
plain_count (row ∷ rows) first end covered plain =
    let one_line = All-head IsPlain row rows plain in
    let left : Cover (first + 1) rows end = subst (λ n. Cover n rows end) (ap (λ n. first + n) one_line.0) covered.2 in
    omega (arith, plain_count rows (first + 1) end left (All-tail IsPlain row rows plain))

-- from the first row on, if there is one
pub clocks_at : (lines : List (List ℕ)) (rows : List Row) (count clock : ℕ) (clocks new : List ℕ)
    → clock ≡ clock_after (take (first_of rows count) lines) → clocks ≡ []
    → ((first end : ℕ) → Cover first rows end → clock ≡ clock_after (take first lines) → new ≡ clocks ++ map (row_clock lines) rows)
    → (first end : ℕ) → Cover first rows end → new ≡ map (row_clock lines) rows
clocks_at lines [] count clock clocks new so_far empty found first end covered =
    found count count refl so_far ∙ ap (λ front. front ++ []) empty
clocks_at lines (row ∷ rows) count clock clocks new so_far empty found first end covered =
    found first end covered (so_far ∙ ap (λ line. clock_after (take line lines)) covered.0)
    ∙ ap (λ front. front ++ map (row_clock lines) (row ∷ rows)) empty

-- so are the clocks of lines that each have a row
pub line_clocks : {E : Type 0} (lines : List (List ℕ)) (rows : List Row) (end : ℕ) (found : Result Marks E) → Cover 0 rows end
    → All IsPlain rows
    → IfOk found (λ marks. (first end : ℕ) → Cover first rows end → marks.clocks.items ≡ map (row_clock lines) rows)
    → IfOk found (λ marks. marks.clocks.items ≡ map (clock_at lines) (range_with_len 0 end))
line_clocks lines rows end (Ok marks) covered plain clocks =
    let all : length rows ≡ end = omega (arith, plain_count rows 0 end covered plain) in
    clocks 0 end covered ∙ plain_clocks lines rows 0 end covered plain
    ∙ ap (λ count. map (clock_at lines) (range_with_len 0 count)) all
line_clocks lines rows end (Err error) covered plain clocks = tt

pub line_marks : {E : Type 0} (rows : List Row) (end : ℕ) (found : Result Marks E) → Cover 0 rows end → All IsPlain rows
    → IfOk found (λ marks. AreMarks (length rows) marks) → IfOk found (λ marks. AreMarks end marks)
line_marks rows end (Ok marks) covered plain are =
    let all : length rows ≡ end = omega (arith, plain_count rows 0 end covered plain) in
    subst (λ count. AreMarks count marks) all are
line_marks rows end (Err error) covered plain are = tt
