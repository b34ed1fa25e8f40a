use Rattle.std.proofs.Common.{arith}
use Rattle.std.proofs.lemmas.Simd.{put_chunk_whole}
use Rattle.hex.proofs.HexLemmas.{length-encode_with}
use Rattle.hex.specs.Hex.{lower_digits}
use Rattle.mote_text.proofs.Common.{encode_lower, take_all}
use Rattle.mote_text.proofs.hex_blocks.write_block.Goals as goal

pub returns : goal.returns
returns c =
    let bytes = c.args.bytes.now in
    let size = length-encode_with lower_digits bytes in
    rw (c.digits_of.ensures, take_all 16 bytes (omega (arith, c.requires.bytes))) (
    put_chunk_whole c.args.buffer.now (encode_lower bytes) (omega (arith, c.requires.bytes, c.requires.buffer, size))
    )
