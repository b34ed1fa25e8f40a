use Rattle.std.proofs.Common.{arith}
use Rattle.modules_c.proofs.MmemRows.{live_is, row_inside, row_outside, unused_is}
use Rattle.modules_c.proofs.MmemStores.{no_block, block_read}
use Rattle.modules_c.proofs.mmem.toarmuts_mmem_place.Goals as goal
use Rattle.modules_c.proofs.mmem.toarmuts_mmem_place.Goals.{then-not-has_block-via-then-not-has_block, then-not-has_block-via-else-not-has_block+then-not-lies_inside}

pub returns-then-not-has_block-clause-none : goal.returns-then-not-has_block-clause-none
returns-then-not-has_block-clause-none c same sound buffer =
    elim c.then-not-has_block.branch [
      | then-not-has_block-via-then-not-has_block w
          ↦ no_block c.args.blocks.now buffer c.args.handle (c.has_block.ensures.none w.if-not-has_block.true)
      | then-not-has_block-via-else-not-has_block+then-not-lies_inside w ↦
          let out = w.lies_inside.ensures.outside w.if-not-lies_inside.true in
          absurd (omega (arith, row_inside c.args.blocks.now c.args.capacity c.args.handle sound out.0))
    ]

pub returns-then-not-has_block-clause-outside : goal.returns-then-not-has_block-clause-outside
returns-then-not-has_block-clause-outside c same place told =
    elim c.then-not-has_block.branch [
      | then-not-has_block-via-then-not-has_block w
          ↦ absurd (let none = unused_is c.args.blocks.now c.args.handle (c.has_block.ensures.none w.if-not-has_block.true) in cc)
      | then-not-has_block-via-else-not-has_block+then-not-lies_inside w ↦
          let out = w.lies_inside.ensures.outside w.if-not-lies_inside.true in
          row_outside c.args.blocks.now c.args.capacity c.args.handle place out.0 out.1 told
    ]

pub returns-clause-block : goal.returns-clause-block
returns-clause-block c below buffer size =
    let some = c.has_block.ensures.some c.if-not-has_block.false in
    block_read c.args.blocks.now buffer c.args.handle c.args.capacity some
    (c.lies_inside.ensures.inside c.if-not-lies_inside.false some) size

pub returns-clause-inside : goal.returns-clause-inside
returns-clause-inside c below = grind (arith, live_is)
