use Rattle.std.proofs.Common.{◌≡◌, ◌≤◌, ◌<◌, ◌+◌, ◌-◌, ◌^◌, ℕ, min, get_or}
use Rattle.pictures.specs.Dump.{lines_before}
use Rattle.pictures.proofs.Told.{last_clock, so_far}
use Rattle.pictures.proofs.dump.most_at_once.Given as goal

abbrev pub invariant-loop-clock : goal.invariant-loop-clock
invariant-loop-clock l = record {
  before : l.before ≡ last_clock (λ line. get_or l.clocks line 0) l.clock-index;
  count : l.count ≡ min (so_far (λ line. get_or l.clocks line 0) l.clock-index) (2 ^ 64 - 1);
  small : l.count ≤ l.clock-index;
  few : l.most ≤ l.clock-index;
  all : (line : ℕ) → line < l.clock-index → min (lines_before (λ line. get_or l.clocks line 0) line + 1) (2 ^ 64 - 1) ≤ l.most;
}
