use Rattle.std.proofs.Common.{◌≡◌, ◌*◌, ◌+◌, arith}
use Rattle.mote_text.proofs.HexPairs.{read_more}
use Rattle.mote_text.proofs.hex_blocks.read_block.Goals as goal

pub bytes-preserved : goal.bytes-preserved
bytes-preserved c =
    let at = c.args.at + c.bytes.i in
    let high : 2 * at ≡ 2 * c.args.at + 2 * c.bytes.i = omega arith in
    let low : 2 * at + 1 ≡ 2 * c.args.at + (2 * c.bytes.i + 1) = omega arith in
    let next : c.args.at + (c.bytes.i + 1) ≡ at + 1 = omega arith in
    rw next (
    read_more c.args.digits.now c.bytes.buffer at c.bytes.bits _ _ (omega arith) (omega arith)
    (rw high (c.values_of-values.ensures (2 * c.bytes.i) (omega arith)))
    (rw low (c.values_of-values.ensures (2 * c.bytes.i + 1) (omega arith))) c.bytes.invariant
    )
