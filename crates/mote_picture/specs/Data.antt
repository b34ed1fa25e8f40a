-- JSON that ends no element of a page.
use Rattle.std.specs.Prelude.{◌≡◌, ℕ, Bool, true, not, List, [], ◌∷◌, ◌++◌, flat_map, codes, if◌then◌else◌, ◌==◌, nat_lt}
use Rattle.std.specs.List.{list_all}

-- no `<` (byte 60), with which each tag and comment begins, is in the text
abbrev pub has_no_opening : List ℕ → Bool
has_no_opening text = list_all (λ byte. not (byte == 60)) text

pub record IsHarmless (text : List ℕ) : Type 0 where
  pub no_opening : has_no_opening text ≡ true

-- a byte of a text as it is written within a string of JSON (RFC 8259): a control character but line end and tab is written as U+FFFD
abbrev pub string_byte : ℕ → List ℕ
string_byte byte =
    if byte == 34 then codes "\\\""
    else if byte == 92 then codes "\\\\"
    else if byte == 10 then codes "\\n"
    else if byte == 9 then codes "\\t"
    else if nat_lt byte 32 then codes "\\ufffd"
    else if byte == 60 then codes "\\u003c"
    else byte ∷ []

abbrev pub string_bytes_of : List ℕ → List ℕ
string_bytes_of text = flat_map string_byte text

-- the string of a text
abbrev pub json_string : List ℕ → List ℕ
json_string text = codes "\"" ++ string_bytes_of text ++ codes "\""
