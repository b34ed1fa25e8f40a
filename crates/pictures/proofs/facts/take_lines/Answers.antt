use Rattle.pictures.proofs.Ascending.{Ascend-may}
use Rattle.pictures.proofs.facts.take_lines.Goals as goal

pub loop-number-preserved : goal.loop-number-preserved
loop-number-preserved c = record {
  queue = Ascend-may 0 _ _ c.loop-number.number c.in_ok-take_line.ensures.queue c.loop-number.invariant.queue;
  lists = Ascend-may 0 _ _ c.loop-number.number c.in_ok-take_line.ensures.lists c.loop-number.invariant.lists;
}
