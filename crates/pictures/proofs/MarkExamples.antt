-- Examples: the clock at rows, numbers that grow, blocks and events that end in a later row.
use Rattle.std.proofs.Common.{◌≡◌, ◌<◌, ◌≤◌, ℕ, List, [], ◌∷◌, codes, Some, None, refl, arith}
use Rattle.pictures.specs.declared.memory.stay.Stay.{Stay}
use Rattle.pictures.specs.declared.rows.row.Row.{Row}
use Rattle.pictures.specs.declared.rows.row.Show.{Show}
use Rattle.pictures.specs.Ascending.{Ascend}
use Rattle.pictures.specs.Clocks.{clock_after, first_of, row_clock}
use Rattle.pictures.specs.Room.{IsFirstExceeding}
use Rattle.pictures.specs.Spans.{EndsLater}

abbrev lines : List (List ℕ)
lines = codes "4 synch 129 - -> wait" ∷ codes "> tick 5" ∷ codes "> serial 61" ∷ codes "> tick 4" ∷ []

abbrev row : ℕ → ℕ → Row
row first count = record { first = first; count = count; show = Show.Lines }

at_begin : clock_after [] ≡ 0
at_begin = refl

-- all lines of a row have passed at its end, and no other
at_end : row_clock lines (row 0 2) ≡ 5
at_end = refl

at_last_end : row_clock lines (row 2 2) ≡ 9
at_last_end = refl

begins : first_of (row 2 1 ∷ row 3 1 ∷ []) 4 ≡ 2
begins = refl

no_row : first_of [] 4 ≡ 4
no_row = refl

no_number_twice : Ascend 0 (1 ∷ 1 ∷ []) 5 → ⊥
no_number_twice grows = let less : 2 ≤ 1 = grows.1.0 in absurd (omega arith)

none_at_end : Ascend 0 (5 ∷ []) 5 → ⊥
none_at_end grows = let less : 6 ≤ 5 = grows.1 in absurd (omega arith)

not_in_one_row : EndsLater 3 (Some 3) → ⊥
not_in_one_row later = let less : 3 < 3 = later in absurd (omega arith)

abbrev stay : ℕ → ℕ → Stay
stay at first = record { pid = 4; name = 0; at = at; taken = 4; size = 3; first = first; last = None }

none_unseen : IsFirstExceeding 10 (stay 0 2 ∷ stay 8 3 ∷ []) None → ⊥
none_unseen fit = let less : 12 ≤ 10 = fit 1 (stay 8 3) (omega arith) in absurd (omega arith)

none_before : IsFirstExceeding 10 (stay 8 5 ∷ stay 8 3 ∷ []) (Some 5) → ⊥
none_before is = let less : 5 ≤ 3 = is.1 1 (stay 8 3) (omega arith) (omega arith) in absurd (omega arith)
