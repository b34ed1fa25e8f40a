use Rattle.mote_text.proofs.Writing.{writes_lost}
use Rattle.mote_text.proofs.output_buffer.TextBuffer.make_room.Goals as goal

pub returns-in_err-flush-clause-writes : goal.returns-in_err-flush-clause-writes
returns-in_err-flush-clause-writes g c = λ named.
    let cut = c.in_err-flush.ensures.writes named in writes_lost c.from_residual.result _ c.from_residual.ensures.0 cut.1
