use Rattle.std.proofs.Common.{take}
use Rattle.pictures.specs.Room.{IsFirstExceeding}
use Rattle.pictures.proofs.facts.exceeds.Given as goal

abbrev pub invariant-loop-index : goal.invariant-loop-index
invariant-loop-index l = IsFirstExceeding l.size (take l.index l.stays) l.first
