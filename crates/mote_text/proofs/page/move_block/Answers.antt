use Rattle.std.proofs.Common.{take, arith, length-take-le}
use Rattle.std.proofs.lemmas.Simd.{put_chunk_whole}
use Rattle.mote_text.proofs.page.move_block.Goals as goal

pub returns : goal.returns
returns g c =
    put_chunk_whole c.args.buffer.now (take g.row.N c.args.block.now)
    (omega (arith, (length-take-le g.row.N c.args.block.now c.requires.block), c.requires.buffer))
