-- Which words of a text fit the words of a call; hex digits are of either case.
use Rattle.std.proofs.Common.{◌≡◌, ◌∙◌, ◌<◌, ◌^◌, ◌||◌, ℕ, Bool, true, false, List, [], ◌∷◌, ◌++◌, length, get_or, drop, codes, decimal, bytes_eq, Some, None, Ok, Option, refl, sym, ap, subst, lt-ltb, arith}
use Rattle.std.proofs.lemmas.Fmt.{decimal_nonempty}
use Rattle.std.proofs.lemmas.List.{length-map}
use Rattle.std.proofs.lemmas.List.Folds.{list_all-map}
use Rattle.std.proofs.lemmas.List.Sums.{AllPass-from_list_all, list_all-from_AllPass}
use Rattle.std.specs.Prelude.{⊤}
use Rattle.std.specs.Char.{is_ascii_digit}
use Rattle.std.specs.List.{AllPass, list_all}
use Rattle.arrayvec.specs.ArrayVec.{ArrayVec}
use Rattle.hex.proofs.HexLemmas.{decode_of-digits, decode_of-encode_lower, decode_of-ok, length-encode_with}
use Rattle.hex.specs.Hex.{decode_of, encode_lower, is_hex_digit, lower_digits}
use Rattle.mote_text.proofs.Digits.{all_weaker}
use Rattle.mote_text.proofs.Ticks.{digits_of_read, read_decimal}
use Rattle.mote_text.specs.EntryText.{Word, hex, payload_word}
use Rattle.call_lists.specs.Spaced.{spaced}
use Rattle.mote_text.specs.Script.{read_number}
use Rattle.mote_types.specs.declared.event.Payload.{Payload}
use Rattle.call_lists.specs.Calls.{hex_lowered}
use Rattle.call_lists.specs.Ranges.{AreBytes, IsByte, IsChunk, IsPayload, IsWide}
use Rattle.call_lists.specs.Code.Readings.{Test, behind_first, first_word, is_chunk, is_hex, is_payload, is_small, is_wide, left_by_all, left_by_call}
use Rattle.call_lists.proofs.Cuts.{IsPlain, behind_spaced, is_kept, is_plain, kept, kept_lowered, lowered, lowered_cut}

-- no blank, no comma, and any text equal to it in lower case passes the test
abbrev pub Fits : Test → Word → Type 0
Fits is_word word = IsPlain word × ((text : List ℕ) → hex_lowered text ≡ word → is_word text ≡ true)

abbrev pub AllFit : List Test → List Word → Type 0
AllFit [] [] = ⊤
AllFit [] (word ∷ words) = ⊥
AllFit (test ∷ tests) [] = ⊥
AllFit (test ∷ tests) (word ∷ words) = Fits test word × AllFit tests words

abbrev pub FitsCall : Option (List Test) → List Word → Type 0
FitsCall None words = ⊥
FitsCall (Some tests) words = AllFit tests words

or_right : (a b : Bool) → b ≡ true → (a || b) ≡ true
or_right true b is = refl
or_right false b is = is

module _ (text : List ℕ) where
  -- ---- numbers

  pub plain_digits : list_all is_ascii_digit text ≡ true → IsPlain text
  plain_digits all = all_weaker is_ascii_digit is_plain text (λ c is. grind arith) all

  -- ---- bytes

  plain_hex : AllPass is_hex_digit text → IsPlain text
  plain_hex all =
      all_weaker is_hex_digit is_plain text (λ c is. grind arith) (list_all-from_AllPass is_hex_digit text all)

  hex_digits_lowered : AllPass is_hex_digit (hex_lowered text) → AllPass is_hex_digit text
  hex_digits_lowered all =
      AllPass-from_list_all is_hex_digit text
      (all_weaker (λ c. is_hex_digit (lowered c)) is_hex_digit text (λ c is. grind arith)
      (sym (list_all-map is_hex_digit lowered text) ∙ (list_all-from_AllPass is_hex_digit (hex_lowered text) all)))

module _ (most : ℕ) (bytes : List ℕ) where
  digits_of : AreBytes most bytes → AllPass is_hex_digit (encode_lower bytes)
  digits_of are = (decode_of-ok (encode_lower bytes) bytes (decode_of-encode_lower bytes are.1)).1

  hex_fits : AreBytes most bytes → (text : List ℕ) → hex_lowered text ≡ encode_lower bytes
      → is_hex most text ≡ true
  hex_fits are text same =
      let digits = hex_digits_lowered text (subst (AllPass is_hex_digit) (sym same) (digits_of are)) in
      grind (arith, decode_of-digits, length-map, length-encode_with, lower_digits)

module _ (b : ℕ) (bytes : List ℕ) where
  some_digits : (text : List ℕ) → hex_lowered text ≡ encode_lower (b ∷ bytes) → 0 < length text
  some_digits text same = grind (arith, length-map, length-encode_with)

  hex_some : hex (b ∷ bytes) ≡ encode_lower (b ∷ bytes)
  hex_some = grind arith

pub bytes_fit : (bytes : List ℕ) → AreBytes 64 bytes → Fits is_chunk (hex bytes)
bytes_fit [] are = (refl, λ text same. rw (kept_lowered text (codes "-") refl same) refl)
bytes_fit (b ∷ bytes) are =
    subst (Fits is_chunk) (sym (hex_some b bytes)) (
      plain_hex (encode_lower (b ∷ bytes)) (digits_of 64 (b ∷ bytes) are),
      λ text same. or_right (bytes_eq text (codes "-")) _
          (rw (lt-ltb 0 (length text) (some_digits b bytes text same), hex_fits 64 (b ∷ bytes) are text same) refl),
    )

pub chunk_fits : (chunk : ArrayVec ℕ) → IsChunk chunk → Fits is_chunk (hex chunk.items)
chunk_fits chunk is = bytes_fit chunk.items is

-- ---- what an event carries

number_text : (text : List ℕ) → list_all is_ascii_digit text ≡ true → 0 < length text → is_payload text ≡ is_wide text
number_text [] all some = absurd (omega arith)
number_text (c ∷ text) all some = grind arith

line_word : (text : List ℕ) → is_payload (120 ∷ text) ≡ is_hex 127 text
line_word text = grind arith

line_text : (text bytes : List ℕ) → AreBytes 127 bytes → hex_lowered text ≡ codes "x" ++ encode_lower bytes → is_payload text ≡ true
line_text [] bytes are same = cc same
line_text (c ∷ text) bytes are same =
    rw (kept c 120 (ap (λ text. get_or text 0 0) same) refl) (line_word text ∙ hex_fits 127 bytes are text (ap (drop 1) same))

module _ (n : ℕ) where
  pub all_digits : n < 2 ^ 32 → list_all is_ascii_digit (decimal n) ≡ true
  all_digits wide = digits_of_read (decimal n) n (read_decimal n wide)

  module _ (text : List ℕ) where
    number_lowered : IsWide n → hex_lowered text ≡ decimal n → text ≡ decimal n
    number_lowered wide same =
        kept_lowered text (decimal n)
        (all_weaker is_ascii_digit is_kept (decimal n) (λ c is. grind arith) (all_digits (omega arith))) same

    read_lowered : IsWide n → hex_lowered text ≡ decimal n → read_number text ≡ Some n
    read_lowered wide same = ap read_number (number_lowered wide same) ∙ read_decimal n wide

  pub small_fits : IsByte n → Fits is_small (decimal n)
  small_fits small = grind (arith, plain_digits, all_digits, read_lowered)

  pub wide_fits : IsWide n → Fits is_wide (decimal n)
  wide_fits wide = grind (arith, plain_digits, all_digits, read_lowered)

pub payload_fits : (payload : Payload) → IsPayload payload → Fits is_payload (payload_word payload)
payload_fits Payload.Empty is = (refl, λ text same. rw (kept_lowered text (codes "-") refl same) refl)
payload_fits (Payload.Num n) is = (
  plain_digits (decimal n) (all_digits n (omega arith)),
  λ text same.
      let is_text = number_lowered n text (omega arith) same in
      ap is_payload is_text ∙ number_text (decimal n) (all_digits n (omega arith)) (decimal_nonempty n (omega arith))
      ∙ (wide_fits n is).1 (decimal n) (ap hex_lowered (sym is_text) ∙ same),
)
payload_fits (Payload.Line line) is =
    (plain_hex (encode_lower line.items) (digits_of 127 line.items is), λ text same. line_text text line.items is same)

-- ---- all words of a call

pub all_taken : (tests : List Test) (words : List Word) (left : List ℕ) → AllFit tests words → hex_lowered left ≡ spaced words
    → left_by_all tests (Some left) ≡ Some []
unfolding spaced
all_taken [] [] left fit same = rw (kept_lowered left [] refl same) refl
all_taken [] (word ∷ words) left fit same = absurd fit
all_taken (test ∷ tests) [] left fit same = absurd fit
all_taken (test ∷ tests) (word ∷ words) [] fit same = cc same
all_taken (test ∷ tests) (word ∷ words) (c ∷ text) fit same =
    let cut = lowered_cut text word (spaced words) fit.0.0 (behind_spaced words) (ap (drop 1) same) in
    rw (fit.0.1 (first_word text) cut.0) (all_taken tests words (behind_first text) fit.1 cut.1)

pub call_taken : (tests : Option (List Test)) (words : List Word) (left : List ℕ) → FitsCall tests words → hex_lowered left ≡ spaced words
    → left_by_call tests (Some left) ≡ Some []
call_taken None words left fit same = absurd fit
call_taken (Some tests) words left fit same = all_taken tests words left fit same

module _ (word : List ℕ) where
  module _ (bytes : List ℕ) where
    -- a word of bytes, if it is no dash
    pub chunk_passes : is_hex 64 word ≡ true → decode_of word ≡ Ok bytes → 0 < length bytes → is_chunk word ≡ true
    chunk_passes is decoded some = grind (arith, decode_of-ok)

    pub no_bytes_fail : bytes_eq word (codes "-") ≡ false → decode_of word ≡ Ok bytes → length bytes ≡ 0
        → is_chunk word ≡ false
    no_bytes_fail other decoded none = grind (arith, decode_of-ok)
