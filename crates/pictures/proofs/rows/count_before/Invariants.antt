use Rattle.std.proofs.Common.{◌≡◌, ◌<◌, ℕ, take}
use Rattle.pictures.specs.Clocks.{clock_after, clock_at}
use Rattle.pictures.specs.Rows.{bytes_of}
use Rattle.pictures.proofs.rows.count_before.Given as goal

abbrev pub invariant-loop-index : goal.invariant-loop-index
invariant-loop-index l = record {
  now : l.now ≡ clock_after (take l.index (bytes_of l.lines));
  before : (line : ℕ) → line < l.index
      → clock_at (bytes_of l.lines) line < l.clock;
}
