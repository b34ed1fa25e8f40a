use Rattle.mote_types.specs.Bytes.{zeros}
use Rattle.node_memory.proofs.HeapBlocks.{asked-found, asked-no-room}
use Rattle.node_memory.proofs.LaidOut.{heap-shown}
use Rattle.node_memory.proofs.Stays.{heap_leaves}
use Rattle.std.proofs.Common.{rules, arith, ap, sym, ◌∙◌, ◌≡◌, refl}
use Rattle.std.specs.Option.{option_map}
use Rattle.heap_core.specs.Code.HeapBytes.{heap_of}
use Rattle.mote_types.specs.BlockNames.{number_of}
use Rattle.mote_types.specs.declared.call.Call.{Call}
use Rattle.heap_core.specs.HeapStore.{with_block, block_at, allocated}
use Rattle.node_memory.proofs.memory.NodeMemory.heap_alloc.Goals as goal

pub returns-then-is_none-clause-asked : goal.returns-then-is_none-clause-asked
returns-then-is_none-clause-asked c =
    let same : heap_of c.self.inside.heap c.self.inside.arena.bytes ≡ c.args.self.now.contents.heap = grind arith in
    asked-no-room c.args.self.now.contents (grind arith) (ap (allocated c.args.pid.0 c.args.block c.args.n) (sym same)
    ∙ ap (option_map (λ spot. with_block (block_at spot (number_of c.args.pid.0 c.args.block) (zeros c.args.n)) (heap_of
    c.self.inside.heap c.self.inside.arena.bytes)))
    (c.alloc.ensures.refused.0 (search rules)))
    (heap-shown c.self.invariant c.alloc.ensures.rest c.alloc.ensures.laid_out c.args.self.now c.args.self.now.contents.heap
    c.self.view_is (grind arith))

pub returns-then-is_none-clause-refused : goal.returns-then-is_none-clause-refused
returns-then-is_none-clause-refused c =
    heap_leaves c.self.inside.mmem c.self.inside.heap c.alloc.new.self c.self.inside.pools c.self.inside.arena.bytes
    c.alloc.new.arena.bytes c.args.self.now (Call.HeapAlloc c.args.block c.args.n)
    c.alloc.ensures.rest.span c.self.view_is
    (heap-shown c.self.invariant c.alloc.ensures.rest c.alloc.ensures.laid_out c.args.self.now c.args.self.now.contents.heap
    c.self.view_is (grind arith))
    refl

pub returns-clause-asked : goal.returns-clause-asked
returns-clause-asked c =
    let same : heap_of c.self.inside.heap c.self.inside.arena.bytes ≡ c.args.self.now.contents.heap = grind arith in
    asked-found c.args.self.now.contents (grind arith) (ap (allocated c.args.pid.0 c.args.block c.args.n) (sym same) ∙ search rules)
    (heap-shown c.self.invariant c.alloc.ensures.rest c.alloc.ensures.laid_out c.args.self.now _ c.self.view_is refl)
