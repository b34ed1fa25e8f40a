use Rattle.std.proofs.Common.{sym}
use Rattle.modules_c.proofs.MmemRows.{live_below}
use Rattle.modules_c.proofs.MmemStores.{live_some, live_none, store_freed, table_freed}
use Rattle.modules_c.proofs.mmem.toarmuts_mmem_free.Goals as goal

pub returns-then-not-has_block-clause-live : goal.returns-then-not-has_block-clause-live
returns-then-not-has_block-clause-live c buffer =
    sym (live_none c.args.blocks.now buffer c.args.handle (c.has_block.ensures.none c.if-not-has_block.true))

pub returns-clause-live : goal.returns-clause-live
returns-clause-live c buffer = sym (live_some c.args.blocks.now buffer c.args.handle (c.has_block.ensures.some c.if-not-has_block.false))

pub returns-clause-block : goal.returns-clause-block
returns-clause-block c same buffer = store_freed c.args.blocks.now buffer c.args.handle

pub returns-clause-sound : goal.returns-clause-sound
returns-clause-sound c capacity sound =
    table_freed c.args.handle sound (live_below c.args.blocks.now c.args.handle (c.has_block.ensures.some c.if-not-has_block.false))
