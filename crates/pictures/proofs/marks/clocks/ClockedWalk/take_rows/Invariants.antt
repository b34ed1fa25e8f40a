use Rattle.std.proofs.Common.{◌≡◌, ◌+◌, ℕ, length, take}
use Rattle.pictures.specs.Clocks.{clock_after}
use Rattle.pictures.specs.Rows.{Cover, bytes_of}
use Rattle.pictures.proofs.RowClocks.{HasClocks}
use Rattle.pictures.proofs.marks.clocks.ClockedWalk.take_rows.Given as goal

abbrev pub invariant-loop-index : goal.invariant-loop-index
invariant-loop-index l = record {
  clocks : (first end : ℕ) → Cover first l.rows end → l.initial.self.clock ≡ clock_after (take first (bytes_of l.lines))
      → HasClocks (bytes_of l.lines) l.rows end l.initial.self.clocks.items l.index l.self.clock l.self.clocks.items;
  replies : length l.self.replies.items ≡ length l.initial.self.replies.items + l.index;
  lateness : length l.self.lateness.items ≡ length l.initial.self.lateness.items + l.index;
}
