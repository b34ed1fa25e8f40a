-- Texts without `<`.
use Rattle.std.proofs.Common.{◌≡◌, ◌+◌, ◌%◌, ◌^◌, ◌<◌, ℕ, Bool, true, false, not, List, [], ◌∷◌, ◌++◌, flat_map, codes, decimal, if◌then◌else◌, ◌==◌, nat_lt, refl, sym, subst, arith}
use Rattle.std.proofs.lemmas.List.Folds.{list_all-append}
use Rattle.std.proofs.lemmas.List.Concat.{flat_map-cons}
use Rattle.std.proofs.lemmas.Bool.Decides.{nat_tests}
use Rattle.std.proofs.lemmas.Fmt.{decimal_by_steps}
use Rattle.mote_picture.specs.Data.{IsHarmless, has_no_opening, string_byte, string_bytes_of, json_string}

pub harmless-append : (first second : List ℕ) → IsHarmless first → IsHarmless second → IsHarmless (first ++ second)
harmless-append first second f s =
    record { no_opening = rw (list_all-append (λ (byte : ℕ). not (byte == 60)) first second, f.no_opening, s.no_opening) refl }

-- appended, or refused
pub grown : (old more new : List ℕ) (done : Bool) → new ≡ (if done then old ++ more else old) → IsHarmless old → IsHarmless more
    → IsHarmless new
grown old more new true e o m = subst IsHarmless (sym e) (harmless-append old more o m)
grown old more new false e o m = subst IsHarmless (sym e) o

digit : (n : ℕ) → n < 10 → IsHarmless ((48 + n) ∷ [])
digit n small = let other : (48 + n == 60) ≡ false = grind (arith, nat_tests) in record { no_opening = rw other refl }

pub decimal_harmless : (n : ℕ) → n < 2 ^ 64 → has_no_opening (decimal n) ≡ true
decimal_harmless n small =
    let all : IsHarmless (decimal n) =
    decimal_by_steps (λ n text. IsHarmless text) digit
    (λ n text _ rest. harmless-append text _ rest (digit (n % 10) (omega arith))) n small in
    all.no_opening

-- one of two
either : (is : Bool) (first second : List ℕ) → IsHarmless first → IsHarmless second → IsHarmless (if is then first else second)
either true first second f s = f
either false first second f s = s

-- the cases of a byte of a string, from the last one on
itself : (is : Bool) (byte : ℕ) → (byte == 60) ≡ is → IsHarmless (if is then codes "\\u003c" else byte ∷ [])
itself true byte e = record { no_opening = refl }
itself false byte e = record { no_opening = rw e refl }

string_byte-harmless : (byte : ℕ) → IsHarmless (string_byte byte)
string_byte-harmless byte =
    let control = either (nat_lt byte 32) (codes "\\ufffd") _ (record { no_opening = refl }) (itself (byte == 60) byte refl) in
    let tab = either (byte == 9) (codes "\\t") _ (record { no_opening = refl }) control in
    let line_end = either (byte == 10) (codes "\\n") _ (record { no_opening = refl }) tab in
    let backslash = either (byte == 92) (codes "\\\\") _ (record { no_opening = refl }) line_end in
    either (byte == 34) (codes "\\\"") _ (record { no_opening = refl }) backslash

flat_map-harmless : (f : ℕ → List ℕ) → ((byte : ℕ) → IsHarmless (f byte)) → (text : List ℕ) → IsHarmless (flat_map f text)
flat_map-harmless f each [] = record { no_opening = refl }
flat_map-harmless f each (byte ∷ text) =
    rw (flat_map-cons f byte text) (harmless-append (f byte) (flat_map f text) (each byte) (flat_map-harmless f each text))

pub json_string-harmless : (text : List ℕ) → IsHarmless (json_string text)
json_string-harmless text =
    let inside : IsHarmless (string_bytes_of text ++ codes "\"") =
    harmless-append (string_bytes_of text) (codes "\"") (flat_map-harmless string_byte string_byte-harmless text)
    (record { no_opening = refl }) in
    harmless-append (codes "\"") (string_bytes_of text ++ codes "\"") (record { no_opening = refl }) inside
