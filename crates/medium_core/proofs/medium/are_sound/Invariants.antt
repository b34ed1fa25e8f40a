use Rattle.std.proofs.Common.{◌≡◌, take, true}
use Rattle.std.specs.List.{list_all}
use Rattle.medium_core.specs.Links.{is_link}
use Rattle.medium_core.proofs.medium.are_sound.Given as goal

abbrev pub invariant-loop-link : goal.invariant-loop-link
invariant-loop-link l = list_all is_link (take l.link-index l.links) ≡ true
