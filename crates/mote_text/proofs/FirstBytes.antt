-- The first byte of a line says which word it may begin with.
use Rattle.std.proofs.Common.{◌≡◌, ◌==◌, if◌then◌else◌, ℕ, List, [], ◌∷◌, Option, Some, None, codes, refl, slice_index, arith}
use Rattle.std.specs.Option.{option_or}
use Rattle.mote_text.specs.Script.{argument_of, read_behind, read_bytes, read_number, read_words}
use Rattle.mote_text.proofs.Common.{Input, nat_tests}

or_none : (read : Option Input) → option_or read None ≡ read
or_none (Some input) = refl
or_none None = refl

other_word : (first : ℕ) (word line : List ℕ) → (slice_index line 0 ≡ first → ⊥) → argument_of (first ∷ word) line ≡ None
other_word first word [] other = refl
other_word first word (byte ∷ rest) other = grind arith

abbrev as_tick : List ℕ → Option Input
as_tick line = read_behind (codes "tick ") read_number (λ n. Input.Tick n) line

abbrev as_serial : List ℕ → Option Input
as_serial line = read_behind (codes "serial ") (read_bytes 256) (λ bytes. Input.Serial (record { items = bytes })) line

abbrev as_frame : List ℕ → Option Input
as_frame line = read_behind (codes "frame ") (read_bytes 127) (λ bytes. Input.Frame (record { items = bytes })) line

no_tick : (line : List ℕ) → (slice_index line 0 ≡ 116 → ⊥) → argument_of (codes "tick ") line ≡ None
no_tick line other = other_word 116 (codes "ick ") line other

no_serial : (line : List ℕ) → (slice_index line 0 ≡ 115 → ⊥) → argument_of (codes "serial ") line ≡ None
no_serial line other = other_word 115 (codes "erial ") line other

no_frame : (line : List ℕ) → (slice_index line 0 ≡ 102 → ⊥) → argument_of (codes "frame ") line ≡ None
no_frame line other = other_word 102 (codes "rame ") line other

tick_line : (line : List ℕ) → slice_index line 0 ≡ 116 → read_words line ≡ as_tick line
tick_line line is = rw (no_serial line (λ n. omega (arith, is, n)), no_frame line (λ n. omega (arith, is, n))) (or_none (as_tick line))

serial_line : (line : List ℕ) → slice_index line 0 ≡ 115 → read_words line ≡ as_serial line
serial_line line is = rw (no_tick line (λ n. omega (arith, is, n)), no_frame line (λ n. omega (arith, is, n))) (or_none (as_serial line))

frame_line : (line : List ℕ) → slice_index line 0 ≡ 102 → read_words line ≡ as_frame line
frame_line line is = rw (no_tick line (λ n. omega (arith, is, n)), no_serial line (λ n. omega (arith, is, n))) refl

other_line : (line : List ℕ) → (slice_index line 0 ≡ 116 → ⊥) → (slice_index line 0 ≡ 115 → ⊥) → (slice_index line 0 ≡ 102 → ⊥)
    → read_words line ≡ None
other_line line tick serial frame = rw (no_tick line tick, no_serial line serial, no_frame line frame) refl

pub by_first_byte : (line : List ℕ) → read_words line ≡
    (if slice_index line 0 == 116 then as_tick line
    else if slice_index line 0 == 115 then as_serial line
    else if slice_index line 0 == 102 then as_frame line
    else None)
by_first_byte line = grind (arith, nat_tests, tick_line, serial_line, frame_line, other_line)
