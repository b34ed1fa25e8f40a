use Rattle.mmem_core.proofs.Lemmas.{arith, map-set}
use Rattle.mmem_core.proofs.place_table.PlaceTable.put.Goals as goal

pub returns : goal.returns
returns c = grind (arith, map-set)
