use Rattle.call_lists.specs.Code.Lists.{IsCounted}
use Rattle.call_lists.proofs.RowParts.{AreCopies}
use Rattle.call_lists.proofs.rows.reading.push_part.Given as goal

-- the call was added n times
abbrev pub invariant-loop : goal.invariant-loop
invariant-loop l = IsCounted l.part l.count l.words × AreCopies l.words l.counter l.initial.steps.items l.steps.items
