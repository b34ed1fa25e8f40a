use Rattle.std.proofs.Common.{rules}
use Rattle.modules_c.proofs.MmemStores.{table_added, store_added, last_added, added_behind}
use Rattle.modules_c.proofs.mmem.slide.put_last.Goals as goal

pub returns : goal.returns
returns c = rw c.clear.ensures (record {
  table = table_added c.args.blocks.now c.args.buffer.now c.args.handle c.args.block c.requires.there c.requires.table c.requires.lies;
  store = store_added c.args.blocks.now c.args.buffer.now c.args.handle c.args.block c.requires.there c.requires.table c.requires.lies;
  row = search rules;
  last = last_added c.args.blocks.now c.args.buffer.now c.args.handle c.args.block c.requires.there c.requires.table c.requires.lies;
  new_last = added_behind c.args.blocks.now c.args.buffer.now c.args.handle c.args.block c.requires.there c.requires.table c.requires.lies;
})
