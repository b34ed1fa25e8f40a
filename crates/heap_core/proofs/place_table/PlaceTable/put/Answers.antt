use Rattle.heap_core.proofs.Lemmas.{arith, map-set}
use Rattle.heap_core.proofs.place_table.PlaceTable.put.Goals as goal

pub returns : goal.returns
returns c = grind (arith, map-set)
