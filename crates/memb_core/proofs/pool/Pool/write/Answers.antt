use Rattle.memb_core.proofs.Lemmas.{◌≡◌, ◌+◌, ◌≤◌, length, true, refl, arith, written, length-range, place_of, is_used, used_below, used_if_room, room_of, write_inside, pool_written, links_kept, still_within, kept, keeps_lists}
use Rattle.memb_core.proofs.pool.Pool.write.Goals as goal
use Rattle.memb_core.proofs.pool.Pool.write.Goals.{After-usable_span-block}

pub usable_span-block-requires : goal.usable_span-block-requires
usable_span-block-requires c = used_below c.args.self.now.used c.args.b
    (used_if_room c.args.self.now c.args.arena.now.bytes c.args.b (c.args.at + length c.args.bytes.now) c.requires.range)

fit : (c : After-usable_span-block)
    → (is_used c.args.b c.args.self.now ≡ true) × (c.args.at + length c.args.bytes.now ≤ c.args.self.now.usable)
fit c = room_of c.args.self.now c.usable_span-block.ensures.fills c.args.arena.now.bytes c.requires.within c.args.b
    (c.args.at + length c.args.bytes.now) c.requires.range

pub overflow_add-block : goal.overflow_add-block
overflow_add-block c = grind (arith, fit (goal.at.overflow_add-block c).After-usable_span-block)

pub overflow_cast-bytes : goal.overflow_cast-bytes
overflow_cast-bytes c = grind (arith, fit (goal.at.overflow_cast-bytes c).After-usable_span-block)

pub invariant_of-bytes_mut : goal.invariant_of-bytes_mut
invariant_of-bytes_mut c = grind (arith, fit (goal.at.invariant_of-bytes_mut c).After-usable_span-block)

pub bytes_mut-target-requires : goal.bytes_mut-target-requires
bytes_mut-target-requires c = grind (arith, fit (goal.at.bytes_mut-target-requires c).After-usable_span-block)

pub copy_from_slice-requires : goal.copy_from_slice-requires
copy_from_slice-requires c =
    grind (arith, length-range, fit (goal.at.copy_from_slice-requires c).After-usable_span-block)

pub returns : goal.returns
returns c =
    let pool = c.args.self.now in let bytes = c.args.arena.now.bytes in let ws = c.args.bytes.now in
    let room = fit (goal.at.returns c).After-usable_span-block in let fills = c.usable_span-block.ensures.fills in
    let place = place_of pool c.args.b + 4 + c.args.at in
    let after : written bytes (c.usable_span-block.result.at + c.args.at) c.copy_from_slice.new.self
    ≡ written bytes (pool.span.at + place) ws = grind arith in
    record {
      block = grind (arith, pool_written, used_below);
      lists = grind (arith, used_below, keeps_lists, still_within, links_kept);
      rest = grind (
        arith,
        kept pool fills bytes c.requires.within place ws
            (write_inside pool fills bytes c.requires.within c.args.b c.args.at ws
            (used_below pool.used c.args.b room.0) room.1) pool c.args.arena.now.carved refl,
      );
    }
