use Rattle.node_memory.proofs.listed_pool.ListedPool.write.Goals as goal

pub returns-clause-linked : goal.returns-clause-linked
returns-clause-linked c = c.write.ensures.lists.linked c.args.self.now.lists c.requires
