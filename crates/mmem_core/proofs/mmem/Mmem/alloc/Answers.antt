use Rattle.mmem_core.proofs.Lemmas.{length-map, length, get_or, rules, ◌≡◌, ◌<◌, None, sym, ap, ◌∙◌, arith, number_of, ManagedStore, unused, place_in, last_end, HandleTable, store_of, region_of, begins_behind, bytes_moved-set, bytes_moved-same, placed, shown, no_place, get_or-blocks, block_in, unused-added}
use Rattle.mmem_core.proofs.mmem.Mmem.alloc.Goals as goal

pub returns-then-avail-size-clause-refused : goal.returns-then-avail-size-clause-refused
returns-then-avail-size-clause-refused c = grind arith

pub returns-then-avail-size-clause-slid : goal.returns-then-avail-size-clause-slid
returns-then-avail-size-clause-slid c = grind (arith, bytes_moved-same)

pub returns-then-avail-size-clause-still : goal.returns-then-avail-size-clause-still
returns-then-avail-size-clause-still c = λ _. bytes_moved-same c.args.self.now.places

pub make_room-requires-clause-room : goal.make_room-requires-clause-room
make_room-requires-clause-room c = grind arith

pub returns : goal.returns
returns c =
    let left = c.avail.ensures.free c.args.arena.now.bytes c.requires.within in let old = c.args.self.now in let middle =
    c.make_room.new.self in
    let i = number_of c.args.key.0.0 c.args.key.1 in
    let bytes = c.args.arena.now.bytes in
    let none = no_place (region_of old bytes) (place_in old.places i)
    (sym (get_or-blocks (region_of old bytes) old.places i) ∙ c.requires.unused) in
    let n = c.args.n in let store = store_of middle c.make_room.new.arena.bytes in
    let names = ap (λ (t : HandleTable). length t.places) c.self.view_is in let count = (shown c.self.invariant.0).names in
    let below : i < length (store_of old bytes).blocks =
    grind (arith, length-map, block_in) in
    let below' : i < length store.blocks = grind arith in
    let none' : get_or store.blocks i None ≡ None =
    grind arith in
    let taken = ap unused c.put_last.ensures.block
    ∙ unused-added store i n below' none' in
    let region = region_of middle c.make_room.new.arena.bytes in
    let before = length-map old.places (block_in (region_of old bytes)) in let after = length-map middle.places (block_in region) in
    let lengths = ap (λ (s : ManagedStore). length s.blocks) c.make_room.ensures.blocks in
    let here : i < length middle.places = grind arith in
    let same = bytes_moved-set old.places middle.places i (placed (last_end middle.places) c.args.n) here in
    record {
      refused = grind arith;
      unchanged = search rules;
      block = search rules;
      rest = search rules;
      slid = grind arith;
      still = grind arith;
      together = grind arith;
      behind = begins_behind middle.places i n here
          (no_place region (place_in middle.places i) (sym (get_or-blocks region middle.places i) ∙ none')) c.put_last.new.self.places
          c.put_last.ensures.place;
      last = search rules;
    }

pub returns-then-avail-size-clause-together : goal.returns-then-avail-size-clause-together
returns-then-avail-size-clause-together c moved = grind (arith, bytes_moved-same)
