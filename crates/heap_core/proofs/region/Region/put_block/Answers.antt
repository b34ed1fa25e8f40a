use Rattle.heap_core.proofs.Lemmas.{rules, ◌+◌, ◌-◌, ◌≤◌, ◌⊎◌, inl, inr, arith, chunks_of, store_of, LiveIn, gap_count, Put, fits, changes_inside, put, cut_apart, elsewhere_placed, link_small, gaps_few, if_some, inside}
use Rattle.heap_core.proofs.region.Region.put_block.Goals as goal
use Rattle.heap_core.proofs.region.Region.put_block.Goals.{After-lay-first}

pub give_bytes-requires-clause-source : goal.give_bytes-requires-clause-source
give_bytes-requires-clause-source c =
    let heap = c.args.self.now in let B = c.args.arena.now.bytes in
    if_some (λ other. LiveIn other (chunks_of heap B))
    (λ other. other.at + heap.header + other.size ≤ heap.span.len) c.args.source c.requires.source
    (λ other h. omega (arith, inside heap.header B heap.span.at heap.footprint other (chunks_of heap B) c.requires.divided.chunks.told h))

pub give_bytes-requires-clause-apart : goal.give_bytes-requires-clause-apart
give_bytes-requires-clause-apart c =
    let heap = c.args.self.now in let target = c.args.target.place in let r = c.free_end-end.ensures.free in
    if_some (λ other. LiveIn other (chunks_of heap c.args.arena.now.bytes)) (λ other. (other.at + heap.header + other.size ≤ target.at)
    ⊎ (target.at + heap.header + c.args.n ≤ other.at)) c.args.source c.requires.source
    (λ other h. elim (cut_apart r.cut other h (elsewhere_placed c.requires.divided.chunks c.requires.some h c.requires.place)) [
      | inl low ↦ inl low
      | inr high ↦ inr (omega (arith, r.enough, r.rest))
    ])

laid : (c : After-lay-first)
    → Put c.args.self.now c.lay-first.new.self c.args.arena.now.bytes c.give_bytes.new.arena.bytes c.lay-first.new.arena.bytes c.args.target.place
    c.args.name c.args.n (gap_count (c.free_end-end.result.at - c.args.target.place.at))
    (store_of c.args.self.now c.args.arena.now.bytes).blocks
    c.gap_told-before.result c.lay-first.result
laid c =
    let r = c.free_end-end.ensures.free in
    put r c.args.name c.requires.divided.gaps
    (c.lay-first.ensures.laid c.args.arena.now.bytes r.cut r.ends (changes_inside r c.args.name c.give_bytes.ensures.others))
    c.gap_told-before.ensures c.free_end-end.ensures.link

pub lay-first-requires-clause-fits : goal.lay-first-requires-clause-fits
lay-first-requires-clause-fits c = fits c.free_end-end.ensures.free c.args.name c.requires.name

pub lay-first-requires-clause-link : goal.lay-first-requires-clause-link
lay-first-requires-clause-link c = link_small c.requires.divided.chunks _ c.free_end-end.ensures.link

pub lay-first-requires-clause-few : goal.lay-first-requires-clause-few
lay-first-requires-clause-few c = grind (arith, gaps_few)

pub link_below-requires-clause-chunks : goal.link_below-requires-clause-chunks
link_below-requires-clause-chunks c = (laid (goal.at.link_below-requires-clause-chunks c).After-lay-first).chunks

pub link_below-requires-clause-before : goal.link_below-requires-clause-before
link_below-requires-clause-before c = (laid (goal.at.link_below-requires-clause-before c).After-lay-first).last

pub overflow_sub-self : goal.overflow_sub-self
overflow_sub-self c = omega (arith, (laid (goal.at.overflow_sub-self c).After-lay-first).count, c.gap_count.ensures)

pub returns : goal.returns
unfolding chunks_of
returns c =
    let l = laid (goal.at.returns c).After-lay-first in
    record {
      divided = grind arith;
      block = grind arith;
      stands = λ other h. c.link_below.ensures.relinked.stands other
          (l.kept other h (elsewhere_placed c.requires.divided.chunks c.requires.some h c.requires.place));
      kept = grind arith;
      rest = search rules;
    }
