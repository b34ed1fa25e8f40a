use Rattle.node_memory.proofs.listed_pool.ListedPool.alloc.Goals as goal

pub returns-in-Some-clause-linked : goal.returns-in-Some-clause-linked
returns-in-Some-clause-linked c = c.alloc.ensures.lists.linked c.args.self.now.lists c.requires
