-- The table and the arena while the blocks slide together, one after the other.
use Rattle.mmem_core.proofs.Words.{◌≡◌, ℕ, ◌+◌, ◌-◌, ◌≤◌, ◌<◌, ◌^◌, inl, inr, min, length, get_or, slice_set, slice_range, Option, Some, None, ap, ◌∙◌, arith, IfSome, IsSome, cases_eq, cases_lt, get_or-set_same, get_or-set_other, length-set, up4, Contents, contents, written, Place, unused, place_in, last_end, room_moved, AreShared, at_of, room_of, end_at, LieApart, Names, IsEntry, IsNext, IsLinked, IsLaidOut, HandleTable, store_of, KeepsToSpan, CountsMoved}
use Rattle.mmem_core.specs.declared.mmem.Mmem.TheInside.{Inside}
use Rattle.mmem_core.proofs.PlaceLemmas.{placed, len_le_room, live_from_room, live_below, bytes_moved-same, bytes_moved-set, room_moved-same}
use Rattle.mmem_core.proofs.RingLemmas.{shown, hidden, ends, next_below, linked_slid}
use Rattle.mmem_core.proofs.Shares.{rooms_kept}
use Rattle.mmem_core.proofs.Sliding.{AreSliding, sliding_more, last_is_end, past, lowered_room, lowered_order}
use Rattle.mmem_core.proofs.Sliding as sliding
use Rattle.mmem_core.proofs.TableLemmas.{with_place, moved, unused_is}

abbrev pub table_of : Inside → HandleTable
table_of m = record { span = m.span; quotas = m.quotas; places = m.places; slid = m.slid }

pub record IsMidway (old now : Inside) (before after : Contents) (next : Option ℕ) (end : ℕ) : Type 0 where
  pub same : now ≡ record old { places = now.places; slid = now.slid }
  pub same_rooms : (i : ℕ) → room_of (place_in now.places i) ≡ room_of (place_in old.places i)
  pub laid_out : IsLaidOut now.places now.order now.used now.span.len
  pub sliding : AreSliding now.span.len now.used end now.places
  -- the last block that slid
  pub last : ℕ
  pub entry : IsEntry now.places last
  pub ended : end ≡ end_at now.places last
  pub next_is : Names (get_or now.order.after last 0) next
  pub below : IfSome next (λ number. number < 272)
  pub untouched : (i : ℕ) → end ≤ at_of (place_in now.places i) → place_in now.places i ≡ place_in old.places i
  pub within : now.span.at + now.span.len ≤ length after.bytes
  pub small : now.span.len ≤ 65536
  pub blocks : store_of (table_of now) after.bytes ≡ store_of (table_of old) before.bytes
  pub rest : KeepsToSpan (table_of old) (table_of now) before after
  pub counted : CountsMoved (table_of old) (table_of now)

pub midway_first : (m : Inside) (arena : Contents) (next : Option ℕ) → IsLaidOut m.places m.order m.used m.span.len
    → LieApart m.places m.span.len → m.span.len ≤ 65536 → m.slid < 2 ^ 64 → m.span.at + m.span.len ≤ length arena.bytes
    → Names (get_or m.order.after 272 0) next → IfSome next (λ number. number < 272) → IsMidway m m arena arena next 0
midway_first m arena next laid_out lie small slid within next_is below =
    grind (arith, bytes_moved-same, ends (shown laid_out))

module _ {old now : Inside} {before after : Contents} {next : Option ℕ} {number end : ℕ} (is : next ≡ Some number)
    (midway : IsMidway old now before after next end) where
  links : IsLinked now.places now.order
  links = shown midway.laid_out

  named : Names (get_or now.order.after midway.last 0) (Some number)
  named = grind arith

  next_block : IsNext now.places (end_at now.places midway.last) number
  next_block = rw named.0 (links.next midway.last midway.entry)

  some_live : 0 < room_of (place_in now.places number)
  some_live = grind (arith, next_block)

  pub is_live : IsSome (place_in now.places number)
  is_live = live_from_room (place_in now.places number) some_live

  pub link_below : get_or now.order.after number 0 ≤ 272
  link_below = next_below links number (inr some_live)

  module _ {place : Place} (live : place_in now.places number ≡ Some place) where
    pub down : end ≤ place.at
    down = grind (arith, next_block)

    lowest : (j : ℕ) → 0 < room_of (place_in now.places j) → end ≤ at_of (place_in now.places j) → place.at ≤ at_of (place_in now.places j)
    lowest j some above = grind (arith, next_block.lowest j)

    pub inside : place.at + up4 place.len ≤ now.span.len
    inside = grind arith

    pub some_room : 0 < up4 place.len
    some_room = grind arith

    pub midway_more : (slid : ℕ) (after' : Contents) (next' : Option ℕ)
        → slid ≡ min (now.slid + room_moved (Some place) (placed end place.len)) (2 ^ 64 - 1)
        → after' ≡ contents (written after.bytes (now.span.at + end)
        (slice_range after.bytes (now.span.at + place.at) (now.span.at + place.at + place.len))) after.carved
        → Names (get_or now.order.after number 0) next' → IfSome next' (λ number. number < 272)
        → IsMidway old (record now { places = slice_set now.places number (placed end place.len); slid = slid })
        before after' next' (end + up4 place.len)
    midway_more slid after' next' slid_is after_is next_is below =
        let lowered = placed end place.len in
        let new = with_place (table_of now) slid number lowered in
        let lie = midway.sliding.apart in
        let n = len_le_room place.len in
        let long = live_below now.places number place live in
        let new_number = get_or-set_same now.places number lowered None long in
        let first = midway.untouched number (omega (arith, down, ap at_of live)) in
        let step = moved (table_of now) lie after.bytes midway.within number place live slid end down
        (past midway.sliding number place live down lowest) in let rest = step.rest after.carved in
        let step' : KeepsToSpan (table_of now) new after after' = grind arith in
        let moved_more = bytes_moved-set old.places now.places number lowered long in
        let none = room_moved-same (place_in old.places number) in
        let more = sliding_more midway.sliding number place live down lowest in
        let rooms = lowered_room midway.sliding number place live down lowest in
        record {
          same = ap (λ (m : Inside). record m { places = (slice_set now.places number lowered); slid = slid }) midway.same;
          same_rooms = λ i. rooms i ∙ midway.same_rooms i;
          laid_out = record {
            linked = hidden (linked_slid lie more.apart (length-set now.places number lowered) rooms
                (lowered_order midway.sliding number place live down lowest) links);
            total = sliding.same_total midway.sliding number place live down lowest ∙ midway.laid_out.total;
            fits = midway.laid_out.fits;
          };
          sliding = more;
          last = number;
          entry = grind arith;
          ended = grind arith;
          next_is = next_is;
          below = below;
          untouched = λ i above. elim (cases_eq i number) [
            | inl e ↦ grind arith
            | inr ne ↦ let same = get_or-set_other now.places number i lowered None ne in grind arith
          ];
          within = omega (arith, midway.within);
          small = midway.small;
          blocks = ap (λ (a : Contents). store_of new a.bytes) after_is ∙ step.stored ∙ midway.blocks;
          rest = grind arith;
          counted = grind arith;
        }

-- all have slid down
module _ {old now : Inside} {before after : Contents} {next : Option ℕ} {end : ℕ} (is : next ≡ None)
    (midway : IsMidway old now before after next end) where
  pub slid_shared : AreShared old.quotas old.places old.taken old.used old.span.len
      → AreShared now.quotas now.places now.taken now.used now.span.len
  slid_shared shared = grind (arith, rooms_kept)

  pub room_behind : last_end now.places + unused (store_of (table_of now) after.bytes) ≤ now.span.len
  room_behind =
      let none = (shown midway.laid_out).next midway.last midway.entry in
      let last = last_is_end midway.sliding (λ j some. grind (arith, cases_lt, midway.ended)) in
      omega (
        arith,
        last,
        unused_is (table_of now) midway.sliding.apart after.bytes midway.within now.used midway.laid_out.total,
        midway.sliding.together,
        midway.laid_out.fits,
      )
