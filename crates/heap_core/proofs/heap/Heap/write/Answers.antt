use Rattle.heap_core.proofs.Lemmas.{ℕ, ◌+◌, ◌≤◌, length, sym, ap, ◌∙◌, refl, arith, find, if◌then◌else◌, option_map, overwritten, written, changes_only, Chunk, Region, Block, has_name, heap_of, IsLaidOut, range_fits, body_spliced, live_blocks, same_chunks, same_unnamed, count_map, keeps_name, keeps_place, find_map, stored}
use Rattle.heap_core.proofs.heap.Heap.write.Goals as goal
use Rattle.heap_core.proofs.heap.Heap.write.Goals.{After-body-body}

ready : (c : After-body-body) → IsLaidOut c.self.inside.region c.args.arena.now.bytes
    × (c.args.at + length c.args.bytes.now ≤ c.live_chunk-chunk.result.size)
ready c = let heap = c.self.inside.region in let B = c.args.arena.now.bytes in let laid : IsLaidOut heap B = grind arith in (
  laid,
  range_fits (stored laid)
      c.number_of.ensures.within c.live_chunk-chunk.ensures.owned
      (heap_of heap B) c.args.key.0.0 c.args.key.1 c.args.at
      (length c.args.bytes.now) c.number_of.ensures.number c.live_chunk-chunk.ensures.block
      (grind arith),
)

abbrev start : Region → Chunk → ℕ → ℕ
start heap chunk at = heap.span.at + chunk.at + heap.header + at

pub bytes_mut-target-requires : goal.bytes_mut-target-requires
bytes_mut-target-requires c =
    grind (arith, ready (goal.at.bytes_mut-target-requires c).After-body-body)

pub returns : goal.returns
returns c = let k = (goal.at.returns c).After-body-body in let heap = c.self.inside.region in let B = c.args.arena.now.bytes in let at =
    c.args.at in
    let ws = c.args.bytes.now in let chunk = c.live_chunk-chunk.result in let name = c.number_of.result in let o =
    c.live_chunk-chunk.ensures.owned in
    let small = c.number_of.ensures.within in let laid = (ready k).0 in let room = (ready k).1 in
    let live = live_blocks (stored laid) small o at ws room in let same = same_chunks (stored laid) small o at ws room in
    let over = λ (block : Block). (record block { bytes = overwritten at ws block.bytes }) in
    let new : IsLaidOut heap (written B (heap.span.at + chunk.at + heap.header + at) ws) = record {
      chunks = (body_spliced (stored laid) small o at ws room).has;
      named = grind (arith, count_map, keeps_name);
      places = record {
        entries = laid.places.entries;
        told = λ other less.
            laid.places.told other less
            ∙ sym (find_map other (λ (block : Block). if has_name name block then over block else block)
            (keeps_name name over (λ block. refl)) (keeps_place name over (λ block. refl)) (heap_of heap B).blocks)
            ∙ ap (λ blocks. option_map (λ (block : Block). block.at) (find (has_name other) blocks))
            (sym live);
      };
      gaps = grind arith;
      freed = grind (arith, same_unnamed (stored laid) small o at ws room);
    } in
    record {
      block = grind arith;
      laid_out = grind arith;
      rest = grind (
        arith,
        changes_only c.args.arena.now.bytes (start heap chunk at) ws
            (omega (arith, c.live_chunk-chunk.ensures.inside, laid.chunks.within, room))
            heap.span.at heap.span.len (omega arith) (omega (arith, c.live_chunk-chunk.ensures.inside, room)),
      );
    }
