-- The lines in the ring, one after another.
use Rattle.kernel_core.proofs.Common.{decide, list_any, after_first, option_map, is_line_end, line_of, next_line, after_line, Machine, with_serial, serve_line, post_continue, broadcast_line, times, machine_of, KernelFields}
use Rattle.std.proofs.Common.{◌≡◌, ℕ, suc, true, false, List, [], ◌∷◌, refl, Some, None, filter, length}
use Rattle.arrayvec.specs.ArrayVec.{ArrayVec}
use Rattle.kernel_core.proofs.Repeating.{times_next, times_same, times_none}

abbrev ends : List ℕ → ℕ
ends ring = length (filter is_line_end ring)

no_line : (ring : List ℕ) → list_any is_line_end ring ≡ false → ends ring ≡ 0
no_line [] none = refl
no_line (byte ∷ ring) none = grind (decide, no_line ring)

one_line_less : (ring : List ℕ) → list_any is_line_end ring ≡ true → ends ring ≡ suc (ends (after_first is_line_end ring))
one_line_less [] some = absurd (cc)
one_line_less (byte ∷ ring) some = grind (decide, one_line_less ring)

abbrev pub all_served : KernelFields → Machine
all_served k = times (suc (length (filter is_line_end k.serial.ring))) serve_line (machine_of k)

module _ (k : KernelFields) where
  module _ (new : KernelFields) where
    pub one_served : (line : ArrayVec ℕ) → k.serial_waits ≡ false → Some line ≡ option_map line_of (next_line k.serial)
        → new.serial ≡ after_line k.serial
        → machine_of new ≡ post_continue (broadcast_line line.items (with_serial (after_line k.serial) (machine_of k)))
        → all_served new ≡ all_served k
    one_served = grind (decide, one_line_less, times_next)

  pub waits_served : k.serial_waits ≡ true → machine_of k ≡ all_served k
  waits_served = grind (decide, times_same)

  pub none_served : k.serial_waits ≡ false → None ≡ option_map line_of (next_line k.serial)
      → with_serial (after_line k.serial) (machine_of k) ≡ all_served k
  none_served = grind (decide, no_line, times_next, times_none)
