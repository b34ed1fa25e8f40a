use Rattle.node_memory.proofs.LaidOut.{after-frame, frame-held, frame-shown}
use Rattle.node_memory.proofs.Others.{leaves-frame}
use Rattle.std.proofs.Common.{arith, rules}
use Rattle.node_memory.proofs.memory.NodeMemory.take_frame.Goals as goal

pub invariant_of-self-2 : goal.invariant_of-self-2
invariant_of-self-2 c =
    after-frame c.args.slot c.args.bytes.now c.self.invariant c.requires.slot c.alloc.ensures.rest (search rules) c.write.ensures.rest
    c.write.ensures.block

pub returns-clause-taken : goal.returns-clause-taken
returns-clause-taken c = (
  search rules,
  frame-shown c.args.slot c.args.bytes.now c.self.invariant c.requires.slot c.alloc.ensures.rest (search rules) c.write.ensures.rest
      c.write.ensures.block c.args.self.now c.self.view_is,
)

pub returns-clause-held : goal.returns-clause-held
returns-clause-held c =
    frame-held c.args.slot c.args.bytes.now c.self.invariant c.requires.slot c.alloc.ensures.rest (search rules) c.write.ensures.rest
    c.write.ensures.block

pub returns-clause-others : goal.returns-clause-others
returns-clause-others c =
    rw (frame-shown c.args.slot c.args.bytes.now c.self.invariant c.requires.slot c.alloc.ensures.rest (search rules)
    c.write.ensures.rest c.write.ensures.block c.args.self.now c.self.view_is)
    (grind (arith, leaves-frame))

pub returns-then-is_none-clause-refused : goal.returns-then-is_none-clause-refused
returns-then-is_none-clause-refused c = grind (arith, c.shortage.ensures c.self.inside.arena.bytes)
