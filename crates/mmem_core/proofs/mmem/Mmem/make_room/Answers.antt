use Rattle.mmem_core.proofs.Lemmas.{arith, bytes_moved-same}
use Rattle.mmem_core.proofs.mmem.Mmem.make_room.Goals as goal

pub returns-else-self-end-clause-slid : goal.returns-else-self-end-clause-slid
returns-else-self-end-clause-slid c = grind (arith, bytes_moved-same)

pub returns-else-self-end-clause-still : goal.returns-else-self-end-clause-still
returns-else-self-end-clause-still c = λ _. bytes_moved-same c.args.self.now.places

pub returns-else-self-end-clause-together : goal.returns-else-self-end-clause-together
returns-else-self-end-clause-together c moved = grind (arith, bytes_moved-same)
