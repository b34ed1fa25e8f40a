use Rattle.std.proofs.Common.{◌≡◌, length, refl, take, arith, nat_le}
use Rattle.mote_text.proofs.Common.{take_all}
use Rattle.mote_text.proofs.LineEnds.{no_end_before, take_few}
use Rattle.mote_text.proofs.script_lines.Lines.whole_line.Goals as goal

pub returns-in_err-end-clause-none : goal.returns-in_err-end-clause-none
returns-in_err-end-clause-none c = λ none begins.
    let piece = c.args.piece.now in
    let near = take c.min.result piece in
    let all : take (length near) near ≡ near = grind (arith, take_all) in
    rw (take_few 1_025 c.min.result piece (nat_le (length piece) 1_025) refl c.min.ensures)
    (rw all at (no_end_before near (length near) (omega arith) c.in_err-end.ensures))

pub returns-clause-endless : goal.returns-clause-endless
returns-clause-endless c = grind (arith, no_end_before)
