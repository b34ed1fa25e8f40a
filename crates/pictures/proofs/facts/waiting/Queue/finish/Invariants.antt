use Rattle.std.proofs.Common.{◌≡◌, ◌++◌, map, take}
use Rattle.pictures.proofs.facts.waiting.Queue.finish.Given as goal

abbrev pub invariant-loop-index : goal.invariant-loop-index
invariant-loop-index l =
    map (λ wait. wait.line) l.waits.items ≡ map (λ wait. wait.line) l.initial.waits.items ++ map (λ posted. posted.line)
    (take l.index l.posted.items)
