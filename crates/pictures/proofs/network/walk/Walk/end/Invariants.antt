use Rattle.std.proofs.Common.{◌≡◌, ◌++◌, map, take}
use Rattle.pictures.specs.Network.InFlight.{ended}
use Rattle.pictures.specs.declared.network.flights.Fate.{Fate}
use Rattle.pictures.proofs.network.walk.Walk.end.Given as goal

abbrev pub invariant-loop-frame : goal.invariant-loop-frame
invariant-loop-frame l = record {
  flights : l.found.flights.items
      ≡ l.initial.found.flights.items ++ map (λ frame. ended frame l.lines Fate.UnderWay) (take l.frame-index l.frame-items);
  outside : l.found.outside.items ≡ l.initial.found.outside.items;
}
