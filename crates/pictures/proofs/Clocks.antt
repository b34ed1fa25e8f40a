-- The clock from line to line.
use Rattle.std.proofs.Common.{◌≡◌, ◌∙◌, ◌≤◌, ◌<◌, ◌+◌, ◌-◌, ◌^◌, min, ℕ, List, [], length, take, get_or, sum_by, sym, ap, arith}
use Rattle.std.proofs.lemmas.List.{length-map, take-take}
use Rattle.std.proofs.lemmas.List.Sums.{sum_by_more, sum_by-take-le}
use denote.Ref.{Bor}
use Rattle.pictures.specs.Transcript.Lines.{ticks_of}
use Rattle.pictures.specs.Clocks.{clock_after, clock_at}
use Rattle.pictures.specs.Rows.{bytes_of}
use Rattle.pictures.proofs.Again.{text_is}

capped_sum : (before ticks most : ℕ) → min (min before most + ticks) most ≡ min (before + ticks) most
capped_sum before ticks most = omega arith

-- one line later, after its ticks
pub clock_more : (lines : List (Bor (List ℕ))) (index now ticks : ℕ) (line : Bor (List ℕ)) → line.now ≡ [] → index < length lines
    → now ≡ clock_after (take index (bytes_of lines)) → ticks ≡ ticks_of (get_or lines index line).now
    → min (now + ticks) (2 ^ 64 - 1) ≡ clock_after (take (index + 1) (bytes_of lines))
clock_more lines index now ticks line none inside so_far here =
    let size : length (bytes_of lines) ≡ length lines = length-map lines (λ (line : Bor (List ℕ)). line.now) in
    let more = sum_by_more ticks_of (bytes_of lines) index [] (omega (arith, size)) in
    let text = text_is lines index line none in
    ap (λ n. min (n + ticks) (2 ^ 64 - 1)) so_far ∙ capped_sum (sum_by ticks_of (take index (bytes_of lines))) ticks (2 ^ 64 - 1)
    ∙ ap (λ n. min (sum_by ticks_of (take index (bytes_of lines)) + n) (2 ^ 64 - 1)) (here ∙ ap ticks_of (sym text))
    ∙ ap (λ n. min n (2 ^ 64 - 1)) (sym more)

sum_grows : (lines : List (List ℕ)) (one other : ℕ) → one ≤ other → sum_by ticks_of (take one lines) ≤ sum_by ticks_of (take other lines)
sum_grows lines one other order =
    let front : take one (take other lines) ≡ take one lines = take-take one other lines order in
    omega (arith, rw front at (sum_by-take-le ticks_of (take other lines) one))

-- the clock never decreases
pub clock_grows : (lines : List (List ℕ)) (one other : ℕ) → one ≤ other → clock_at lines one ≤ clock_at lines other
clock_grows lines one other order = omega (arith, sum_grows lines (one + 1) (other + 1) (omega arith))
