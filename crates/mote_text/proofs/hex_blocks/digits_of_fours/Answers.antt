use Rattle.mote_text.proofs.HexBlocks.{are_fours}
use Rattle.mote_text.proofs.hex_blocks.digits_of_fours.Goals as goal

pub returns : goal.returns
returns c =
    let fours = are_fours c.args.front c.args.back c.fits-front.0 c.fits-back.0 in
    record { front = rw c.digits_of-digits.ensures fours.0; back = rw c.digits_of-digits.ensures fours.1 }
