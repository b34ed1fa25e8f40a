use Rattle.mmem_core.proofs.Lemmas.{seen_apart, ◌≡◌, ◌+◌, ◌≤◌, length, slice_range, Some, arith, contents, written, number_of, place_in, block_is, place_length, rewritten}
use Rattle.mmem_core.proofs.mmem.Mmem.copy.Goals as goal

pub returns-then-source-target : goal.returns-then-source-target
returns-then-source-target c =
    let lie = seen_apart c.self.view_is c.self.invariant.1 in
    let t = c.args.self.now in let bytes = c.args.arena.now.bytes in let from = c.block-from.result in
    let to = c.block-to.result in let i = number_of c.args.source.0.0 c.args.source.1 in let j =
    number_of c.args.target.0.0 c.args.target.1 in
    let live : place_in t.places i ≡ Some from = grind arith in
    let live' : place_in t.places j ≡ Some to = grind arith in
    let block = block_is t lie bytes c.requires.within i from live in
    let block' = block_is t lie bytes c.requires.within j to live' in
    let long' = place_length t lie bytes c.requires.within j to live' in
    let ws = slice_range bytes (t.span.at + from.at) (t.span.at + from.at + from.len) in
    let room : 0 + length ws ≤ to.len = grind arith in
    let is = rewritten t lie bytes c.requires.within j to live' 0 ws room in
    let moved : c.copy.new.self ≡ contents (written bytes (t.span.at + to.at + 0) ws) c.args.arena.now.carved = grind arith in
    record {
      block = grind arith;
      rest = grind (arith, is.rest c.args.arena.now.carved);
    }
