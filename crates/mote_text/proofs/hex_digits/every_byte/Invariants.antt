use Rattle.std.proofs.Common.{◌≡◌, ◌<◌, ℕ, length, slice_index}
use Rattle.mote_text.proofs.hex_digits.every_byte.Given as goal

abbrev pub invariant-bytes : goal.invariant-bytes
invariant-bytes l = (length l.bytes ≡ 256) × ((k : ℕ) → k < l.i → slice_index l.bytes k ≡ k)
