use Rattle.std.proofs.Common.{◌≡◌, take}
use Rattle.pictures.specs.Svg.Markup.{is_named}
use Rattle.pictures.proofs.svg.markup.is_named.Given as goal

abbrev pub invariant-loop-other : goal.invariant-loop-other
invariant-loop-other l = l.is_found ≡ is_named l.attribute (take l.other-index l.named)
