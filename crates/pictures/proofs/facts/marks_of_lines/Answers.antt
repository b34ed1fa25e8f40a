use Rattle.std.proofs.Common.{length}
use Rattle.pictures.specs.Rows.{bytes_of}
use Rattle.pictures.proofs.RowClocks.{line_clocks, line_marks}
use Rattle.pictures.proofs.facts.marks_of_lines.Goals as goal

pub returns-clause-clocks : goal.returns-clause-clocks
returns-clause-clocks c =
    line_clocks (bytes_of c.args.lines.now) c.as_slice.result.now (length c.args.lines.now) c.marks_of.result
    (rw c.as_slice.ensures.value c.in_ok-rows.ensures.cover) (rw c.as_slice.ensures.value c.in_ok-rows.ensures.plain)
    c.marks_of.ensures.clocks

pub returns-clause-marks : goal.returns-clause-marks
returns-clause-marks c =
    line_marks c.as_slice.result.now (length c.args.lines.now) c.marks_of.result (rw c.as_slice.ensures.value c.in_ok-rows.ensures.cover)
    (rw c.as_slice.ensures.value c.in_ok-rows.ensures.plain) c.marks_of.ensures.marks
