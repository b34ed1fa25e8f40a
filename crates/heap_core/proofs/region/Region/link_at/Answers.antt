use Rattle.heap_core.proofs.Lemmas.{chunk_at}
use Rattle.heap_core.proofs.region.Region.link_at.Goals as goal

pub returns : goal.returns
unfolding chunk_at
returns c = cc
