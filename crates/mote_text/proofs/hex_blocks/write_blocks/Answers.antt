use Rattle.std.proofs.Common.{◌≡◌, ◌+◌, ◌*◌, arith}
use Rattle.mote_text.proofs.HexBlocks.{all_written, written_more}
use Rattle.mote_text.proofs.hex_blocks.write_blocks.Goals as goal

pub rows-preserved : goal.rows-preserved
rows-preserved c =
    let next : 16 * (c.rows.row + 1) ≡ 16 * c.rows.row + 16 = omega arith in
    rw next (written_more c.args.bytes.now c.rows.buffer _ (16 * c.rows.row) 16 (c.write_block_at.ensures.text, c.write_block_at.ensures.size) c.rows.invariant)

pub returns : goal.returns
returns c =
    all_written c.args.bytes.now c.rows.buffer _ _ 16 (16 * c.rows.row) (omega arith) (omega arith) (omega arith) c.rows.invariant
    (c.write_block_at-2.ensures.text, c.write_block_at-2.ensures.size)
