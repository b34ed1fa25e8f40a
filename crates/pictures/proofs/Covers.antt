-- Rows that cover lines.
use Rattle.std.proofs.Common.{◌≡◌, ℕ, ◌+◌, ◌<◌, List, [], ◌∷◌, ◌++◌}
use Rattle.pictures.specs.declared.rows.row.Row.{Row}
use Rattle.pictures.specs.Rows.{Cover}

-- one more row
pub Cover-append : (first : ℕ) (rows : List Row) (end : ℕ) (row : Row) → Cover first rows end → row.first ≡ end → 0 < row.count
    → Cover first (rows ++ row ∷ []) (end + row.count)
Cover-append first [] end row covered begins some = (cc, some, cc)
Cover-append first (front ∷ rows) end row covered begins some =
    (covered.0, covered.1, Cover-append (first + front.count) rows end row covered.2 begins some)
