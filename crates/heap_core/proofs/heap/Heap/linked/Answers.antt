use Rattle.heap_core.proofs.Lemmas.{ap, ◌∙◌, linked_of, all_linked}
use Rattle.heap_core.proofs.heap.Heap.linked.Goals as goal

pub returns-clause-free : goal.returns-clause-free
returns-clause-free c = λ bytes laid. ap linked_of c.self.view_is ∙ all_linked c.args.self.now bytes laid
