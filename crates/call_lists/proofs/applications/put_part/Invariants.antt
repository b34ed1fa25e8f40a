use Rattle.call_lists.specs.Code.Lists.{IsCounted}
use Rattle.call_lists.proofs.Filling.{AreCopies}
use Rattle.call_lists.proofs.applications.put_part.Given as goal

-- the call is in the list n times, from the position on
abbrev pub invariant-loop : goal.invariant-loop
invariant-loop l = IsCounted l.part l.count l.words × AreCopies l.words l.counter l.place l.end l.initial.calls l.calls
