use Rattle.std.proofs.Common.{◌≡◌, length, take}
use Rattle.pictures.specs.Clocks.{clock_after}
use Rattle.pictures.specs.Rows.{bytes_of}
use Rattle.pictures.proofs.marks.clocks.ClockedWalk.take_lines.Given as goal

abbrev pub invariant-loop-number : goal.invariant-loop-number
invariant-loop-number l = record {
  clock : l.initial.self.clock ≡ clock_after (take l.first (bytes_of l.lines))
      → l.self.clock ≡ clock_after (take l.number (bytes_of l.lines));
  clocks : l.self.clocks ≡ l.initial.self.clocks;
  replies : length l.self.replies.items ≡ length l.initial.self.replies.items;
  lateness : length l.self.lateness.items ≡ length l.initial.self.lateness.items;
}
