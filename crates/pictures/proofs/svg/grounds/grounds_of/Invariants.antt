use Rattle.std.proofs.Common.{take}
use Rattle.pictures.specs.Svg.Titles.{AreGrounds}
use Rattle.pictures.specs.Rows.{bytes_of}
use Rattle.pictures.proofs.svg.grounds.grounds_of.Given as goal

abbrev pub invariant-loop-row : goal.invariant-loop-row
invariant-loop-row l = AreGrounds (bytes_of l.lines) (take l.row-index l.rows) l.grounds
