use Rattle.std.proofs.Common.{◌≡◌, ◌++◌, flat_map, take}
use Rattle.pictures.specs.Network.InFlight.{on_link}
use Rattle.pictures.proofs.network.walk.put_on_links.Given as goal

abbrev pub invariant-loop-link : goal.invariant-loop-link
invariant-loop-link l = l.pending.items ≡ l.initial.pending.items ++ flat_map (on_link l.sent) (take l.link-index l.links)
