use Rattle.std.proofs.Common.{◌≡◌, All, take}
use Rattle.pictures.specs.Rows.{bytes_of}
use Rattle.mote_picture.specs.Reading.{IsLine}
use Rattle.mote_picture.proofs.reading.texts_of.Given as goal

abbrev pub invariant-loop-index : goal.invariant-loop-index
invariant-loop-index l = record {
  lines : bytes_of l.lines.items ≡ take l.index (bytes_of l.parts);
  read : All IsLine (take l.index (bytes_of l.parts));
}
