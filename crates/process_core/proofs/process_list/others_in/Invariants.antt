use Rattle.process_core.proofs.Lemmas.{◌≡◌, ◌≤◌, length, take, others}
use Rattle.process_core.proofs.process_list.others_in.Given as goal

abbrev pub invariant-loop-other : goal.invariant-loop-other
invariant-loop-other l = record {
  so_far : l.kept.items ≡ others l.number (take l.other-index l.on_list);
  few : length l.kept.items ≤ l.other-index;
}
