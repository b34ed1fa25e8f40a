use Rattle.heap_core.proofs.Lemmas.{arith, get_or-map}
use Rattle.heap_core.proofs.place_table.PlaceTable.get.Goals as goal

pub returns-then-at : goal.returns-then-at
returns-then-at c = grind (arith, get_or-map)

pub returns-else-at : goal.returns-else-at
returns-else-at c = grind (arith, get_or-map)
