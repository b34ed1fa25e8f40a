use Rattle.std.proofs.Common.{length, ◌-◌, arith}
use Rattle.mote_text.proofs.HexBlocks.{ends_put}
use Rattle.mote_text.proofs.hex_blocks.write_few.Goals as goal

pub returns : goal.returns
returns c =
    let bytes = c.args.bytes.now in
    rw (c.digits_of_fours.ensures.front, c.digits_of_fours.ensures.back) (
    ends_put bytes c.args.buffer.now 4 (length bytes - 4) (omega (arith, c.requires.some)) (omega (arith, c.requires.few)) c.requires.buffer
    )
