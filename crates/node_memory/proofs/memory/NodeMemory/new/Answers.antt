use Rattle.std.proofs.Common.{[], ap, arith, length}
use Rattle.std.proofs.lemmas.List.{length-map, length-replicate}
use Rattle.mmem_core.specs.ManagedStore.{ManagedStore}
use Rattle.node_memory.proofs.memory.NodeMemory.new.Goals as goal

pub invariant_of-result : goal.invariant_of-result
invariant_of-result c =
    -- each name has an entry, with a block or without
    let names = ap (λ (store : ManagedStore). length store.blocks) (c.new-mmem.ensures.empty []) in
    grind (arith, length-map, length-replicate)

pub returns-clause-fresh : goal.returns-clause-fresh
returns-clause-fresh c = grind (arith, c.new-mmem.ensures.empty c.pools_over-pools.new.arena.bytes)
