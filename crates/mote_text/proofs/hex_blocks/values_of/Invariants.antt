use Rattle.std.proofs.Common.{◌≡◌, ◌<◌, ◌+◌, ℕ, length, slice_index}
use Rattle.mote_text.specs.Code.HexDigits.{value_or_none}
use Rattle.mote_text.proofs.hex_blocks.values_of.Given as goal

abbrev pub invariant-digits : goal.invariant-digits
invariant-digits l = (length l.values ≡ 32) × ((k : ℕ) → k < l.i → slice_index l.values k ≡ value_or_none (slice_index l.digits (l.from + k)))
