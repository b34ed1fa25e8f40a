use Rattle.heap_core.proofs.Lemmas.{arith, told_by, changes_more}
use Rattle.heap_core.proofs.region.Region.put_chunk.Goals as goal

pub returns-then-is_a_name : goal.returns-then-is_a_name
returns-then-is_a_name c = grind (arith, told_by, changes_more)

pub returns-clause-chunk : goal.returns-clause-chunk
returns-clause-chunk c = grind (arith, told_by)

pub returns-clause-others : goal.returns-clause-others
returns-clause-others c = grind arith
