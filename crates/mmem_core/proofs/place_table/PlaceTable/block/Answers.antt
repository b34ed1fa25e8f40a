use Rattle.mmem_core.proofs.Lemmas.{arith, get_or-map}
use Rattle.mmem_core.proofs.place_table.PlaceTable.block.Goals as goal

pub returns : goal.returns
returns c = grind (arith, get_or-map)
