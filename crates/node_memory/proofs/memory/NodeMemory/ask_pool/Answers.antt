use Rattle.node_memory.proofs.LaidOut.{after-pool, asked-pool, refused-pool, pool-at}
use Rattle.node_memory.specs.Code.Layout.{end_of}
use Rattle.node_memory.specs.Code.Placed.{PlacedMemory}
use Rattle.std.proofs.Common.{arith, ap, ◌∙◌, sym}
use Rattle.std.proofs.lemmas.Option.{slice_get-get_or}
use Rattle.node_memory.specs.Code.Ask.{ask}
use Rattle.node_memory.specs.Code.ListCalls.{pool_in_part}
use Rattle.node_memory.proofs.memory.NodeMemory.ask_pool.Goals as goal

pub ask-requires-clause-linked : goal.ask-requires-clause-linked
ask-requires-clause-linked c =
    (pool-at c.args.pool (end_of c.self.inside.heap.span) c.self.inside.pools _ c.self.inside.arena.bytes c.self.invariant.pools
    (slice_get-get_or c.self.inside.pools c.args.pool c.index-self-pool.result (grind arith))).1

pub invariant_of-self : goal.invariant_of-self
invariant_of-self c =
    (after-pool c.args.pool c.index-self-pool.result c.ask.new.self
    (omega (arith, c.if-pool-ge-POOLS.false)) c.self.invariant c.ask.ensures.rest c.ask.ensures.linked).0

pub returns-clause-asked : goal.returns-clause-asked
returns-clause-asked c =
    λ p. ap (λ (v : PlacedMemory). ask c.args.call.now p v.contents) (sym c.self.view_is)
    ∙ asked-pool c.args.pool c.index-self-pool.result c.ask.new.self
    (omega (arith, c.if-pool-ge-POOLS.false)) c.self.invariant c.ask.ensures.rest c.ask.ensures.linked
    c.args.call.now c.ask.result p (grind arith) (ap pool_in_part c.requires.part) c.ask.ensures.asked

pub returns-clause-refused : goal.returns-clause-refused
returns-clause-refused c = grind (arith, refused-pool)
