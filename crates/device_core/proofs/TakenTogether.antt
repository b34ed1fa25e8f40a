-- Bytes of which none is ignored or lost go into the ring together.
use Rattle.std.proofs.Common.{◌≡◌, ℕ, ◌-◌, Bool, true, List, [], ◌∷◌, ◌++◌, length, take, refl, ap, ◌∙◌, arith, append_assoc, length-append, min}
use Rattle.mote_types.specs.Limits.{ring_places}
use Rattle.device_core.proofs.Common.{after_bytes, takes_all, take_all, append-nil}
use Rattle.device_core.proofs.Lines.{state}

pub after_bytes_all_taken : (ring bytes line : List ℕ) (overflow : Bool) → takes_all (state ring overflow line) bytes ≡ true
    → after_bytes (state ring overflow line) bytes ≡ state (ring ++ bytes) overflow line
after_bytes_all_taken ring [] line overflow all = rw append-nil refl
after_bytes_all_taken ring (byte ∷ bytes) line overflow all =
    ap (λ s. after_bytes s bytes) (grind arith)
    ∙ after_bytes_all_taken (ring ++ byte ∷ []) bytes line overflow (grind (arith, length-append))
    ∙ ap (λ r. state r overflow line) (append_assoc ring (byte ∷ []) bytes)

-- the ring then has room for all bytes
pub none_left : (ring bytes line : List ℕ) (overflow : Bool) (count : ℕ) → takes_all (state ring overflow line) bytes ≡ true
    → count ≡ min (length bytes) (ring_places - length ring) → take count bytes ≡ bytes
none_left ring bytes line overflow count all is_count = grind (arith, take_all)
