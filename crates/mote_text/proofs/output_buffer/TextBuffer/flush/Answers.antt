use Rattle.mote_text.proofs.Writing.{prefix_written, writes_lost}
use Rattle.mote_text.proofs.output_buffer.TextBuffer.flush.Goals as goal

pub returns-in_err-write_all-clause-writes : goal.returns-in_err-write_all-clause-writes
returns-in_err-write_all-clause-writes g c = λ named.
    let front = c.in_err-write_all.ensures.prefix named in
    writes_lost c.from_residual.result _ c.from_residual.ensures.0 (prefix_written _ _ _ front.0 (rw c.as_slice.ensures.value at front.1))
