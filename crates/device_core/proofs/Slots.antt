-- Slots of frames: which are held, and the least free one.
use Rattle.std.proofs.Common.{◌≡◌, ℕ, zero, suc, ◌+◌, ◌-◌, ◌≤◌, ◌<◌, Bool, true, false, List, [], ◌∷◌, ◌++◌, length, drop, map, refl, ◌∙◌, arith, eqb, Option, Some, None, All, not, ◌==◌}
use Rattle.device_core.proofs.Common.{list_any, PacketQueue, free_slot, IsWellFormed, find, range_with_len, IsDistinct, length-map, length_push, map_push, no_packets, is_held, with_frame, Frame}
use Rattle.std.proofs.lemmas.Bool.{eqb-true}
use Rattle.std.proofs.lemmas.Cmp.{nat_eq_equiv}
use Rattle.std.proofs.lemmas.List.Elements.{All-append}
use Rattle.std.proofs.lemmas.List.FromFn.{get_or-range_with_len}
use Rattle.std.proofs.lemmas.Map.Keys.{IsDistinct-push, IsDistinct-tail}
use Rattle.std.proofs.lemmas.Map.Steps.{length-le_from_distinct_below, le-length_from_below}

-- the least free slot from this one on
abbrev pub free_slot_from : ℕ → PacketQueue → Option ℕ
free_slot_from slot queue = find (λ s. not (is_held queue s)) (drop slot (range_with_len 0 8))

abbrev slots_of : List Frame → List ℕ
slots_of frames = map (λ frame. frame.slot) frames

member_where_held : (frames : List Frame) (slot : ℕ) → list_any (eqb slot) (slots_of frames) ≡ list_any (λ frame. frame.slot == slot) frames
member_where_held [] slot = refl
member_where_held (frame ∷ frames) slot = rw (member_where_held frames slot, nat_eq_equiv.symm slot frame.slot) refl

slots_below : (frames : List Frame) → All (λ frame. frame.slot < 8) frames → (q : ℕ) → list_any (eqb q) (slots_of frames) ≡ true → q < 8
slots_below [] below q h = absurd (cc)
slots_below (frame ∷ frames) below q h =
    split (eqb q frame.slot) refl (slots_below frames (λ k d lt. below (suc k) d (omega arith)) q)
  where
    split : (b : Bool) → eqb q frame.slot ≡ b → (list_any (eqb q) (slots_of frames) ≡ true → q < 8) → q < 8
    split true e more = omega (arith, eqb-true q frame.slot e, below 0 frame (omega arith))
    split false e more = more (rw e at h)

below_where_one : (slot len : ℕ) → slot < 8 → let new : Frame = record { slot = slot; len = len } in
    All (λ frame. frame.slot < 8) (new ∷ [])
below_where_one slot len below zero d lt = below
below_where_one slot len below (suc k) d lt = absurd (omega arith)

pub well_formed_without_front : (frames : List Frame) (announced : ℕ) (receiver : Option ℕ)
    → IsWellFormed (record { frames = frames; announced = announced; receiver = receiver })
    → IsWellFormed (record { frames = drop 1 frames; announced = announced - 1; receiver = receiver })
well_formed_without_front [] announced receiver well = grind (arith, well.told)
well_formed_without_front (frame ∷ frames) announced receiver well =
    record {
      few = omega arith;
      distinct = IsDistinct-tail eqb frame.slot (slots_of frames) well.distinct;
      slots = λ k d lt. well.slots (suc k) d (omega arith);
      told = omega arith;
      receiver = well.receiver;
    }

pub well_formed_at_first : IsWellFormed no_packets
unfolding IsDistinct
well_formed_at_first = grind arith

module _ (queue : PacketQueue) where
  module _ (slot : ℕ) where
    pub free_slot_from_more : slot < 8 → is_held queue slot ≡ true
        → free_slot_from (slot + 1) queue ≡ free_slot_from slot queue
    free_slot_from_more below held = grind (arith, get_or-range_with_len 0 8 slot 0 below)

    pub unused_where_free : free_slot queue ≡ Some slot → (slot < 8) × (is_held queue slot ≡ false)
    unfolding free_slot
    unused_where_free h = grind arith

    all_held_where_none_free : free_slot queue ≡ None → slot < 8 → is_held queue slot ≡ true
    unfolding free_slot
    all_held_where_none_free h below = grind arith

    -- the free slot is below 8, and no frame has it
    pub well_formed_with_frame : (len : ℕ) → IsWellFormed queue → free_slot queue ≡ Some slot
        → IsWellFormed (with_frame slot len queue)
    well_formed_with_frame len well h =
        let new : Frame = record { slot = slot; len = len } in
        let frames = queue.frames ++ new ∷ [] in
        let unused = unused_where_free h in
        let slots =
        All-append (λ frame. frame.slot < 8) queue.frames (new ∷ []) well.slots (below_where_one slot len unused.0) in
        let pushed : slots_of frames ≡ slots_of queue.frames ++ slot ∷ [] = grind (arith, map_push) in
        let distinct : IsDistinct eqb (slots_of frames) =
        rw pushed (IsDistinct-push nat_eq_equiv (slots_of queue.frames) slot well.distinct
        (member_where_held queue.frames slot ∙ unused.1)) in
        let few : length (slots_of frames) ≤ 8 = grind (arith, length-le_from_distinct_below, slots_below) in
        grind (arith, length-map, length_push)

    pub room_where_free : IsWellFormed queue → free_slot queue ≡ Some slot → length queue.frames < 8
    room_where_free well h =
        omega (arith, length_push queue.frames (record { slot = slot; len = 0 }), (well_formed_with_frame 0 well h).few)

  pub full_where_none_free : free_slot queue ≡ None → 8 ≤ length queue.frames
  full_where_none_free h =
      omega (arith, (le-length_from_below (slots_of queue.frames) 8 each), length-map queue.frames (λ frame. frame.slot))
    where
      each : (q : ℕ) → q < 8 → list_any (eqb q) (slots_of queue.frames) ≡ true
      each q below = member_where_held queue.frames q ∙ all_held_where_none_free q h below
