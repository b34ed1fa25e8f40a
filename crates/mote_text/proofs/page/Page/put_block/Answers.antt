use Rattle.std.proofs.Common.{arith}
use Rattle.mote_text.proofs.Positions.{front_put}
use Rattle.mote_text.proofs.page.Page.put_block.Goals as goal

pub returns : goal.returns
returns g c = record {
  text = rw c.move_block.ensures (
      front_put c.args.self.now.bytes c.args.block.now _ c.args.at g.row.N c.args.len (omega arith) c.requires.few c.requires.whole
      );
  few = omega arith;
}
