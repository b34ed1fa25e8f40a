-- The table and the buffer while blocks slide together.
use Rattle.mmem_core.proofs.Words.{◌≡◌, ℕ, ◌+◌, ◌≤◌, ◌<◌, List, length, map, slice_set, slice_range, set-get_or, sum_by, Some, None, sym, ap, ◌∙◌, subst, arith, up4, written, place_in, last_end, at_of, room_of}
use Rattle.mmem_core.specs.declared.place.Place.{Place}
use Rattle.arena_core.proofs.Ranges.{length-range, length-written}
use Rattle.mmem_core.proofs.PlaceLemmas.{placed, len_le_room}
use Rattle.mmem_core.proofs.StoreLemmas.{block_in, get_or-blocks, blocks-set, block_written}
use Rattle.modules_c.specs.declared.mmem.block.Block.{Block}
use Rattle.modules_c.specs.Mmem.Stored.{places_told, stored, IsTable}
use Rattle.modules_c.specs.Code.MmemRows.{row_of, IsNext, MovesDown}
use Rattle.modules_c.proofs.MmemRows.{table_lies, told_some, room_is, at_is, live_below, live_is}
use Rattle.mmem_core.proofs.Sliding.{AreSliding, sliding_more, lowered_down, lowered_room, lowered_order, inside, past, last_is_end}
use Rattle.modules_c.proofs.MmemStores.{same_store, told-set}

pub record IsMidway (old now : List Block) (before after : List ℕ) (end : ℕ) : Type 0 where
  pub size : length after ≡ length before
  pub sliding : AreSliding (length before) (sum_by room_of (places_told old)) end (places_told now)
  pub store : stored now after ≡ stored old before
  pub rooms : (j : ℕ) → room_of (place_in (places_told now) j) ≡ room_of (place_in (places_told old) j)
  pub moves : MovesDown old now

pub midway_first : (table : List Block) (buffer : List ℕ) → IsTable table (length buffer) → IsMidway table table buffer buffer 0
midway_first table buffer sound = grind (arith, table_lies)

module _ {old now : List Block} {before after : List ℕ} {end : ℕ} (midway : IsMidway old now before after end) where
  module _ (i : ℕ) (next : IsNext now end (length now) (Some i)) where
    abbrev row : Block
    row = row_of now i

    abbrev place : Place
    place = record { at = row.offset; len = row.size }

    live : place_in (places_told now) i ≡ Some place
    live = live_is now i next.1

    lowest : (j : ℕ) → 0 < room_of (place_in (places_told now) j) → end ≤ at_of (place_in (places_told now) j)
        → row.offset ≤ at_of (place_in (places_told now) j)
    lowest j some after = grind (arith, room_is, at_is, live_below)

    pub next_inside : row.offset + up4 row.size ≤ length before
    next_inside = inside midway.sliding i place live next.2 lowest

    pub midway_more : IsMidway old (slice_set now i (record { offset = end; size = row.size })) before
        (written after end (slice_range after row.offset (row.offset + row.size))) (end + up4 row.size)
    midway_more =
        let moved : Block = record { offset = end; size = row.size } in
        let ws = slice_range after row.offset (row.offset + row.size) in
        let told = told-set now i moved ∙ ap (slice_set (places_told now) i) (told_some moved next.1) in
        let inside : row.offset + row.size ≤ length after = omega (arith, next_inside) in
        let count = length-range after row.offset row.size inside in
        let fits : end + length ws ≤ length after = omega arith in
        let size = length-written after end ws in
        record {
          size = size ∙ midway.size;
          sliding = subst (AreSliding (length before) (sum_by room_of (places_told old)) (end + up4 row.size)) (sym told)
              (sliding_more midway.sliding i place live next.2 lowest);
          store = same_store _ _ _ _ size (ap (map (block_in (written after end ws)))
              (told ∙ ap (λ n. slice_set (places_told now) i (placed end n)) (sym count))
              ∙ blocks-set after end ws fits (places_told now) i (placed end (length ws))
              (λ j ne. let side = past midway.sliding i place live next.2 lowest j ne in let n = len_le_room row.size in grind arith)
              ∙ ap (slice_set (stored now after).blocks i)
              (block_written after end ws fits ∙ sym (get_or-blocks after (places_told now) i ∙ ap (block_in after) live))
              ∙ set-get_or (stored now after).blocks i None) ∙ midway.store;
          rooms = λ j. ap (λ places. room_of (place_in places j)) told
              ∙ lowered_room midway.sliding i place live next.2 lowest j
              ∙ midway.rooms j;
          moves = record {
            down = λ j. let t = ap (λ places. at_of (place_in places j)) told in
                omega (arith, lowered_down midway.sliding i place live next.2 lowest j);
            order = λ j k some less. let t = ap (λ places. at_of (place_in places j)) told in
                let u = ap (λ places. at_of (place_in places k)) told in
                omega (
                  arith,
                  lowered_order midway.sliding i place live next.2 lowest j k
                      (omega arith) (midway.moves.order j k some less),
                );
          };
        }

  -- all have slid down
  pub end_is : IsNext now end (length now) None → last_end (places_told now) ≡ end
  end_is none = last_is_end midway.sliding
      (λ j some.
      let r = room_is now j in
      let some' : 0 < (row_of now j).size = omega arith in
      let a = at_is now j some' in
      omega (arith, none j (live_below now j some') some'))
