-- What a take used of a prefix of a piece.
use Rattle.std.proofs.Common.{◌≡◌, ◌<◌, ◌≤◌, ◌+◌, ◌-◌, arith, ℕ, List, ◌∷◌, ◌++◌, length, take, drop, Some, ap, sym, ◌∙◌, append_assoc}
use Rattle.mote_run.proofs.Common.{slice_get, slice_range, drop-append-le, drop-drop, drop-take, drop_more, length-take, take-append-drop}
use Rattle.std.proofs.lemmas.Option.{get_or_from_slice_get, slice_get_within}

-- after the used bytes comes the rest of the piece
pub used_and_later : (used room : ℕ) (piece : List ℕ) → used ≤ length (take room piece)
    → piece ≡ take used (take room piece) ++ drop used piece
used_and_later used room piece few =
    let window = take room piece in
    let beyond = drop room piece in
    let all = take-append-drop room piece in
    sym (ap (λ v. take used window ++ v) (grind (arith, drop-append-le))
    ∙ (sym (append_assoc (take used window) (drop used window) beyond)
    ∙ (ap (λ v. v ++ beyond) (take-append-drop used window) ∙ all)))

pub next_byte : (used room : ℕ) (piece : List ℕ) (byte : ℕ) → slice_get (take room piece) used ≡ Some byte →
    (used < length (take room piece)) × ((tail : List ℕ) × (drop used piece ≡ byte ∷ tail))
next_byte used room piece byte is =
    let window = take room piece in
    let beyond = drop room piece in
    let within = slice_get_within window used byte is in
    let all : window ++ beyond ≡ piece = take-append-drop room piece in
    let later : drop used piece ≡ drop used window ++ beyond = grind (arith, drop-append-le) in
    let first : drop used window ≡ byte ∷ drop (used + 1) window =
    rw (get_or_from_slice_get window used byte byte is) at (drop_more window used byte within) in
    grind arith

pub drop_of_range : (bytes : List ℕ) (from to count : ℕ) → count ≤ length (slice_range bytes from to) →
    slice_range bytes (from + count) to ≡ drop count (slice_range bytes from to)
drop_of_range bytes from to count few =
    grind (
      arith,
      length-take (to - from) (drop from bytes),
      drop-take count (to - (from + count)) (drop from bytes),
      drop-drop count from bytes,
    )
