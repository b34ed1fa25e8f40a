use Rattle.std.proofs.Common.{rules}
use Rattle.mote_text.proofs.Writing.{given_on}
use Rattle.mote_text.proofs.write.write_all.Goals as goal

pub loop-done-preserved : goal.loop-done-preserved
loop-done-preserved g c = record {
  given = λ named. given_on _ _ _ c.args.bytes.now c.loop-done.done c.in_ok-count.count (c.loop-done.invariant.given named)
      (c.in_ok-count.ensures.given named);
  same = search rules;
  front = search rules;
}
