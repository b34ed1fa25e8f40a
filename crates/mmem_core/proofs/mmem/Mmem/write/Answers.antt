use Rattle.mmem_core.proofs.Lemmas.{seen_apart, ◌≡◌, ◌+◌, ◌≤◌, length, Some, arith, number_of, place_in, block_is, place_length, rewritten}
use Rattle.mmem_core.proofs.mmem.Mmem.write.Goals as goal

pub returns : goal.returns
returns c =
    let lie = seen_apart c.self.view_is c.self.invariant.1 in
    let t = c.args.self.now in let bytes = c.args.arena.now.bytes in let place = c.block-place.result in
    let i = number_of c.args.key.0.0 c.args.key.1 in
    let live : place_in t.places i ≡ Some place = grind arith in
    let block = block_is t lie bytes c.requires.within i place live in
    let long = place_length t lie bytes c.requires.within i place live in
    let room : c.args.at + length c.args.bytes.now ≤ place.len = grind arith in
    let is = rewritten t lie bytes c.requires.within i place live c.args.at c.args.bytes.now room in
    record { block = grind arith; rest = grind (arith, is.rest c.args.arena.now.carved) }
