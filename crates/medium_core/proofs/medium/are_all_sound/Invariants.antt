use Rattle.std.proofs.Common.{◌≡◌, take, true}
use Rattle.std.specs.Global.{Vec}
use Rattle.std.specs.List.{list_all}
use Rattle.medium_core.specs.declared.link.Link.{Link}
use Rattle.medium_core.specs.Links.{is_link}
use Rattle.medium_core.proofs.medium.are_all_sound.Given as goal

abbrev pub invariant-loop-links : goal.invariant-loop-links
invariant-loop-links l = list_all (λ (v : Vec Link). list_all is_link v.items) (take l.links-index l.lists) ≡ true
