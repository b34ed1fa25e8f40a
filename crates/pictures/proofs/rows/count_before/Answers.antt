use Rattle.std.proofs.Common.{◌∙◌, ◌<◌, ◌≤◌, refl, arith}
use borrow.Author.Count.{below_more}
use Rattle.pictures.specs.Clocks.{clock_at}
use Rattle.pictures.specs.Rows.{bytes_of}
use Rattle.pictures.proofs.Clocks.{clock_grows, clock_more}
use Rattle.pictures.proofs.rows.count_before.Goals as goal

pub loop-index-preserved : goal.loop-index-preserved
loop-index-preserved c =
    let lines = c.args.lines.now in
    let index = c.loop-index.index in
    let now = clock_more lines index c.loop-index.now c.ticks_of.result _ refl
    (omega arith) c.loop-index.invariant.now c.ticks_of.ensures in
    record {
      now = c.saturating_add-now.ensures ∙ now;
      before = below_more (λ line. clock_at (bytes_of lines) line < c.args.clock) index c.loop-index.invariant.before (omega (arith, now));
    }

pub returns-then-now-clock-clause-after : goal.returns-then-now-clock-clause-after
returns-then-now-clock-clause-after c =
    let lines = c.args.lines.now in
    let index = c.loop-index.index in
    let now = clock_more lines index c.loop-index.now c.ticks_of.result _ refl
    (omega arith) c.loop-index.invariant.now c.ticks_of.ensures in
    let here : c.args.clock ≤ clock_at (bytes_of lines) index = omega (arith, c.saturating_add-now.ensures, now) in
    λ line begins inside. omega (arith, here, clock_grows (bytes_of lines) index line begins)
