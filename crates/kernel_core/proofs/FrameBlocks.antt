-- Held frames, and the blocks with their bytes.
use Rattle.kernel_core.proofs.Common.{decide, list_any, list_any-append, AllByRecursion, IsDistinct, option_map, IsDistinct-head, Memory, HoldsFrames}
use Rattle.std.proofs.Common.{◌≡◌, ◌≢◌, ℕ, Bool, true, false, List, [], ◌∷◌, ◌++◌, arith, refl, if◌then◌else◌, ◌<◌, Option, Some, None, eqb, map, is_some, ◌==◌, slice_get, drop}
use Rattle.device_core.specs.declared.frame.Frame.{Frame}
use Rattle.node_memory.specs.Code.Conditions.{frame_in}
use Rattle.node_memory.specs.Code.Separation.{BlockName, LeavesOthers, frame_block}

abbrev has_slot : ℕ → Frame → Bool
has_slot slot frame = frame.slot == slot

pub front_is_live : (memory : Memory) (frames : List Frame) (slot : ℕ) → HoldsFrames memory frames → slot < 8
    → option_map (λ (frame : Frame). frame.slot) (slice_get frames 0) ≡ Some slot → is_some (frame_in slot memory) ≡ true
front_is_live memory [] slot holds below e = absurd (cc)
front_is_live memory (frame ∷ frames) slot holds below e = grind decide

same_frame : (changed : Option BlockName) (old new : Memory) (slot : ℕ) → LeavesOthers changed old new → slot < 8
    → changed ≢ Some (frame_block slot)
    → frame_in slot new ≡ frame_in slot old
same_frame changed old new slot leaves below other = leaves (frame_block slot) (omega arith, omega arith, omega arith) other

other_slot : (slot s : ℕ) → (slot == s) ≡ false → Some (frame_block slot) ≢ Some (frame_block s)
other_slot = grind decide

abbrev slots_of : List Frame → List ℕ
slots_of frames = map (λ (frame : Frame). frame.slot) frames

none_has : (slot s : ℕ) (frames : List Frame) → AllByRecursion (λ y. eqb slot y ≡ false) (slots_of frames) → (slot == s) ≡ true
    → list_any (has_slot s) frames ≡ false
none_has slot s [] apart is = refl
none_has slot s (frame ∷ frames) apart is = grind (decide, none_has slot s frames apart.1 is)

-- the block of one frame changes
module _ (slot : ℕ) (old new : Memory) (leaves : LeavesOthers (Some (frame_block slot)) old new) where
  frame_now : (s : ℕ) (test : Bool) → s < 8 → (slot == s) ≡ test → frame_in s new ≡ (if test then frame_in slot new else frame_in s old)
  frame_now s true few e = grind arith
  frame_now s false few e = same_frame (Some (frame_block slot)) old new s leaves few (other_slot slot s e)

  -- a frame was stored
  pub frames_after_taken : (len : ℕ) (bytes : List ℕ) (frames : List Frame) → frame_in slot new ≡ Some bytes → HoldsFrames old frames
      → HoldsFrames new (frames ++ record { slot = slot; len = len } ∷ [])
  frames_after_taken len bytes frames held holds = record {
    live = λ s few. (grind (decide, list_any-append, frame_now s (slot == s) few refl));
  }

  -- the front frame was dropped
  pub frames_after_dropped : (frames : List Frame) → frame_in slot new ≡ None
      → option_map (λ (frame : Frame). frame.slot) (slice_get frames 0) ≡ Some slot
      → IsDistinct eqb (slots_of frames) → HoldsFrames old frames → HoldsFrames new (drop 1 frames)
  frames_after_dropped [] gone e distinct holds = absurd (cc)
  frames_after_dropped (front ∷ frames) gone e distinct holds = record {
    live = λ s few. (let now = frame_now s (slot == s) few refl in grind
        (decide, none_has front.slot s frames (IsDistinct-head eqb front.slot (slots_of frames) distinct), holds.live s few));
  }
