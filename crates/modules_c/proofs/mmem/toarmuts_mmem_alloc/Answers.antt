use Rattle.std.proofs.Common.{rules, length, sym, subst, ap, ◌∙◌, arith}
use Rattle.mmem_core.specs.ManagedStore.{unused, allocated}
use Rattle.std.proofs.lemmas.List.{length-map}
use Rattle.modules_c.specs.declared.mmem.block.Block.{Block}
use Rattle.modules_c.specs.Mmem.Stored.{LieNoHigher, KeepOrder, process_of, handle_of}
use Rattle.modules_c.proofs.MmemRows.{table_lies}
use Rattle.modules_c.proofs.MmemStores.{live_some, live_none, unused_left, unused_after, still_unused, no_higher, same_order}
use Rattle.modules_c.proofs.mmem.toarmuts_mmem_alloc.Goals as goal

pub returns-then-has_block-clause-answer : goal.returns-then-has_block-clause-answer
returns-then-has_block-clause-answer c sound =
    grind (arith, length-map, live_some c.args.blocks.now c.args.buffer.now c.args.handle (c.has_block.ensures.some c.if-has_block.true))

pub returns-then-size-eq0-clause-answer : goal.returns-then-size-eq0-clause-answer
returns-then-size-eq0-clause-answer c sound =
    grind (arith, length-map, live_none c.args.blocks.now c.args.buffer.now c.args.handle (c.has_block.ensures.none c.if-has_block.false))

pub returns-then-not-fits-clause-answer : goal.returns-then-not-fits-clause-answer
returns-then-not-fits-clause-answer c sound =
    grind (
      arith,
      length-map,
      unused_left c.args.blocks.now c.args.buffer.now (c.lie_apart.ensures.0 c.if-not-lie_apart.false),
      live_none c.args.blocks.now c.args.buffer.now c.args.handle (c.has_block.ensures.none c.if-has_block.false),
    )

pub put_last-requires-clause-unused : goal.put_last-requires-clause-unused
put_last-requires-clause-unused c =
    still_unused c.args.blocks.now c.make_room-offset.new.blocks c.args.buffer.now c.make_room-offset.new.buffer c.args.handle c.make_room-offset.ensures.store
    (c.has_block.ensures.none c.if-has_block.false)

pub returns-clause-answer : goal.returns-clause-answer
returns-clause-answer c sound =
    grind (
      arith,
      length-map,
      unused_left c.args.blocks.now c.args.buffer.now (c.lie_apart.ensures.0 c.if-not-lie_apart.false),
      live_none c.args.blocks.now c.args.buffer.now c.args.handle (c.has_block.ensures.none c.if-has_block.false),
    )

pub returns-clause-given : goal.returns-clause-given
returns-clause-given c done = record {
  block = grind arith;
  sound = search rules;
  still = grind arith;
  together = λ over.
      let table = c.args.blocks.now in let buffer = c.args.buffer.now in let i = c.args.handle in
      let left = ap unused (c.put_last.ensures.store ∙ (ap (allocated (process_of i)
      (handle_of i) c.args.size) c.make_room-offset.ensures.store)) ∙ unused_after table buffer i c.args.size c.if-handle-blocks.false
      (c.has_block.ensures.none c.if-has_block.false) in
      omega (
        arith,
        unused_left table buffer (c.lie_apart.ensures.0 c.if-not-lie_apart.false),
        c.put_last.ensures.last,
        c.make_room-offset.ensures.together over,
        c.left_over.ensures,
      );
  down =
      let table = c.args.blocks.now in let block : Block = record { offset = c.make_room-offset.result; size = c.args.size } in
      subst (LieNoHigher table) (sym c.put_last.ensures.row)
      (no_higher table c.make_room-offset.new.blocks c.args.handle block
      (c.has_block.ensures.none c.if-has_block.false) c.make_room-offset.ensures.moves.down);
  order =
      let table = c.args.blocks.now in let block : Block = record { offset = c.make_room-offset.result; size = c.args.size } in
      subst (KeepOrder table) (sym c.put_last.ensures.row)
      (same_order table c.make_room-offset.new.blocks c.args.handle block (c.has_block.ensures.none c.if-has_block.false)
      (table_lies table (length c.args.buffer.now)
      (c.lie_apart.ensures.0 c.if-not-lie_apart.false)).no_empty c.make_room-offset.ensures.moves.order);
  new_last = grind arith;
}
