use Rattle.node_memory.proofs.Others.{leaves-asked}
use Rattle.node_memory.proofs.memory.NodeMemory.ask.Goals as goal

pub returns-in-Some-Managed-clause-others : goal.returns-in-Some-Managed-clause-others
returns-in-Some-Managed-clause-others c = search leaves-asked

pub returns-in-Some-Heap-clause-others : goal.returns-in-Some-Heap-clause-others
returns-in-Some-Heap-clause-others c = search leaves-asked

pub returns-in-Some-Pool-clause-others : goal.returns-in-Some-Pool-clause-others
returns-in-Some-Pool-clause-others c =
    leaves-asked c.args.call.now c.args.pid.0 c.args.self.now.contents c.ask_pool.new.self.contents c.ask_pool.result c.requires.asker
    (c.ask_pool.ensures.asked c.args.pid.0)
