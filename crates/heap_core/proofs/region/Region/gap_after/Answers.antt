use Rattle.heap_core.proofs.Lemmas.{◌+◌, sym, ap, ◌∙◌, arith, front_gap, around, room_for_header, ended}
use Rattle.heap_core.proofs.region.Region.gap_after.Goals as goal

pub overflow_add-end : goal.overflow_add-end
overflow_add-end c = grind (arith, around c.requires.chunks c.requires.stands)

pub returns-then-end-self : goal.returns-then-end-self
returns-then-end-self c =
    let heap = c.args.self.now in let chunk = c.args.chunk in
    let a = around c.requires.chunks c.requires.stands in
    sym (ap front_gap (a.behind_is
    ∙ ended heap.header c.args.arena.now.bytes heap.span.at (chunk.at + chunk.len) heap.footprint a.behind a.back
    (omega arith)))

pub chunk_at-following-requires-clause-inside : goal.chunk_at-following-requires-clause-inside
chunk_at-following-requires-clause-inside c =
    grind (arith, room_for_header, around c.requires.chunks c.requires.stands)

pub returns-then-is_gap : goal.returns-then-is_gap
returns-then-is_gap c =
    grind (arith, around c.requires.chunks c.requires.stands, c.args.self.now)

pub returns-else-is_gap : goal.returns-else-is_gap
returns-else-is_gap c =
    grind (arith, around c.requires.chunks c.requires.stands, c.args.self.now)
