-- A whole line that arrives and leaves apart from the ring.
use Rattle.std.proofs.Common.{◌≡◌, ◌<◌, ℕ, ◌-◌, ◌+◌, ◌==◌, true, false, not, List, [], ◌∷◌, ◌++◌, length, take, slice_index_or, refl, sym, ap, ◌∙◌, arith, Some}
use Rattle.std.proofs.lemmas.List.{take_more, length-take-le}
use Rattle.std.specs.List.{prefix_len}
use Rattle.std.proofs.lemmas.List.Folds.{list_any-append}
use Rattle.device_core.specs.SerialLine.{quiet_line}
use Rattle.device_core.specs.Code.Taking.{is_quiet}
use Rattle.device_core.specs.Code.WholeLines.{IsWholeLine, has_low_byte, in_ring, is_one_line}
use Rattle.device_core.proofs.Common.{SerialLine, after_bytes, after_first, after_line, before_first, is_line_end, list_any, next_line, take_all, take_at}
use Rattle.device_core.proofs.TakenTogether.{after_bytes_all_taken}

abbrev without_end : List ℕ → List ℕ
without_end bytes = take (length bytes - 1) bytes

abbrev begun : List ℕ → SerialLine
begun bytes = record quiet_line { line = bytes }

has_first : (bytes : List ℕ) (i : ℕ) → slice_index_or bytes i 0 ≡ 10 → 0 < length bytes
has_first [] i is = cc
has_first (byte ∷ bytes) i is = omega arith

parts : (bytes : List ℕ) (last : ℕ) → length bytes ≡ last + 1 → slice_index_or bytes last 0 ≡ 10 → bytes ≡ take last bytes ++ 10 ∷ []
parts bytes last long is =
    sym (take_all (last + 1) bytes (omega arith)) ∙ take_more bytes last 0 (omega arith) ∙ ap (λ end. take last bytes ++ end ∷ []) is

line_and_end : (bytes : List ℕ) → slice_index_or bytes (length bytes - 1) 0 ≡ 10 → bytes ≡ without_end bytes ++ 10 ∷ []
line_and_end bytes is = let some = has_first bytes (length bytes - 1) is in parts bytes (length bytes - 1) (omega arith) is

no_bytes : (bytes : List ℕ) → length bytes ≡ 0 → bytes ≡ []
no_bytes [] none = refl
no_bytes (byte ∷ bytes) none = absurd (omega arith)

no_ends : (bytes : List ℕ) → has_low_byte bytes ≡ false → list_any is_line_end bytes ≡ false
no_ends [] none = refl
no_ends (byte ∷ bytes) none = grind (arith, no_ends bytes)

none_ignored : (bytes : List ℕ) → has_low_byte bytes ≡ false → list_any (λ byte. byte == 13) bytes ≡ false
none_ignored [] none = refl
none_ignored (byte ∷ bytes) none = grind (arith, none_ignored bytes)

pub quiet : (serial : SerialLine) → is_quiet serial ≡ true → serial ≡ quiet_line
quiet = grind (arith, no_bytes)

-- what arrives is as if the line had gone into the ring
pub taken_whole : (bytes : List ℕ) → is_one_line bytes ≡ true → after_bytes quiet_line bytes ≡ in_ring (begun (without_end bytes))
taken_whole bytes one =
    let parts = line_and_end bytes (grind arith) in
    let none = none_ignored (without_end bytes) (grind arith) in
    after_bytes_all_taken [] bytes [] false (grind (arith, list_any-append))
    ∙ ap (λ ring. record quiet_line { ring = ring }) parts

pub is_whole : (bytes : List ℕ) → is_one_line bytes ≡ true → IsWholeLine (begun (without_end bytes))
is_whole bytes one = record {
  empty = refl;
  heard = refl;
  room = grind (arith, length-take-le);
  plain = no_ends (without_end bytes) (grind arith);
}

any_end : (line : List ℕ) → list_any is_line_end (line ++ 10 ∷ []) ≡ true
any_end [] = refl
any_end (byte ∷ line) = grind (arith, any_end line)

up_to_end : (line : List ℕ) → list_any is_line_end line ≡ false → prefix_len (λ byte. not (is_line_end byte)) (line ++ 10 ∷ []) ≡ length line
up_to_end [] plain = refl
up_to_end (byte ∷ line) plain = grind (arith, up_to_end line)

before_end : (line : List ℕ) → list_any is_line_end line ≡ false → before_first is_line_end (line ++ 10 ∷ []) ≡ line
before_end line plain = rw (up_to_end line plain) (take_at line (10 ∷ []) (length line) refl)

after_end : (line : List ℕ) → list_any is_line_end line ≡ false → after_first is_line_end (line ++ 10 ∷ []) ≡ []
after_end [] plain = refl
after_end (byte ∷ line) plain = grind (arith, after_end line)

module _ (serial : SerialLine) (whole : IsWholeLine serial) where
  -- the line is the next one, and nothing is left
  pub next_whole : next_line (in_ring serial) ≡ Some serial.line
  next_whole = grind (arith, any_end, before_end serial.line whole.plain, take_all 127 serial.line)

  pub none_after_whole : after_line (in_ring serial) ≡ record serial { line = [] }
  none_after_whole = grind (arith, any_end, after_end serial.line whole.plain)
