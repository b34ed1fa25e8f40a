use Rattle.std.proofs.Common.{rules, ◌<◌, ◌+◌, length}
use Rattle.mote_kit.specs.Gaps.{texts}
use Rattle.mote_kit.proofs.Fitting.{at_start, not_at_start, nowhere}
use Rattle.mote_kit.proofs.gaps.rest_after.Goals.{else-loop-start-test, then-loop-start-test+in_default+else-start-start-end}
use Rattle.mote_kit.proofs.gaps.rest_after.Goals as goal

pub returns-in-Some : goal.returns-in-Some
returns-in-Some c = at_start c.loop-start.start c.args.text.now (texts c.args.lines.now) (texts c.in-Some.rest.now) c.loop-start-test.true c.loop-start.invariant c.in-Some.ensures

pub loop-start-preserved : goal.loop-start-preserved
loop-start-preserved c = not_at_start c.loop-start.start c.args.text.now (texts c.args.lines.now) c.loop-start.invariant c.in_default.ensures

pub returns : goal.returns
returns c part rest is = elim c.loop-start-test.branch [
  | else-loop-start-test w ↦ nowhere c.loop-start.start c.args.text.now (texts c.args.lines.now) w.loop-start-test.false c.loop-start.invariant part rest is
  | then-loop-start-test+in_default+else-start-start-end w ↦
      let last : length c.args.text.now < c.loop-start.start + 1 = search rules in
      nowhere (c.loop-start.start + 1) c.args.text.now (texts c.args.lines.now) last
      (not_at_start c.loop-start.start c.args.text.now (texts c.args.lines.now) c.loop-start.invariant w.in_default.ensures) part rest is
]
