use Rattle.std.proofs.Common.{arith}
use Rattle.std.proofs.lemmas.Simd.{Each1-all, Each2-splat}
use Rattle.mote_text.proofs.HexBlocks.{digits_right}
use Rattle.mote_text.proofs.hex_blocks.digits_of.Goals as goal

pub nonzero_div-high : goal.nonzero_div-high
nonzero_div-high c = Each2-splat _ c.args.bytes 16 16 (Each1-all _ (λ byte. omega arith) c.args.bytes)

pub nonzero_rem-low : goal.nonzero_rem-low
nonzero_rem-low c = Each2-splat _ c.args.bytes 16 16 (Each1-all _ (λ byte. omega arith) c.args.bytes)

pub returns : goal.returns
returns c = digits_right c.args.bytes c.fits-bytes.0 c.fits-bytes.1
