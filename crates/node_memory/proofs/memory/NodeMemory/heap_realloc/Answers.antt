use Rattle.heap_core.specs.HeapStore.{reallocated}
use Rattle.node_memory.proofs.HeapBlocks.{asked-found, asked-no-room}
use Rattle.node_memory.proofs.LaidOut.{heap-shown}
use Rattle.node_memory.proofs.Stays.{heap_leaves}
use Rattle.std.proofs.Common.{rules, arith, ap, sym, ◌∙◌, ◌≡◌, refl}
use Rattle.heap_core.specs.Code.HeapBytes.{heap_of}
use Rattle.mote_types.specs.declared.call.Call.{Call}
use Rattle.node_memory.proofs.memory.NodeMemory.heap_realloc.Goals as goal

pub returns-then-is_none-2-clause-asked : goal.returns-then-is_none-2-clause-asked
returns-then-is_none-2-clause-asked c =
    asked-no-room c.args.self.now.contents (grind arith) (ap (reallocated c.args.pid.0 c.args.block c.args.n) (sym (grind arith))
    ∙ c.realloc.ensures.refused.0 (search rules))
    (heap-shown c.self.invariant c.realloc.ensures.rest c.realloc.ensures.laid_out c.args.self.now c.args.self.now.contents.heap
    c.self.view_is (grind arith))

pub returns-then-is_none-2-clause-refused : goal.returns-then-is_none-2-clause-refused
returns-then-is_none-2-clause-refused c =
    heap_leaves c.self.inside.mmem c.self.inside.heap c.realloc.new.self c.self.inside.pools c.self.inside.arena.bytes
    c.realloc.new.arena.bytes c.args.self.now (Call.HeapRealloc c.args.block c.args.n)
    c.realloc.ensures.rest.span c.self.view_is
    (heap-shown c.self.invariant c.realloc.ensures.rest c.realloc.ensures.laid_out c.args.self.now c.args.self.now.contents.heap
    c.self.view_is (grind arith))
    refl

pub returns-clause-asked : goal.returns-clause-asked
returns-clause-asked c =
    let same : heap_of c.self.inside.heap c.self.inside.arena.bytes ≡ c.args.self.now.contents.heap = grind arith in
    asked-found c.args.self.now.contents (grind arith) (ap (reallocated c.args.pid.0 c.args.block c.args.n) (sym same) ∙ search rules)
    (heap-shown c.self.invariant c.realloc.ensures.rest c.realloc.ensures.laid_out c.args.self.now _ c.self.view_is refl)
