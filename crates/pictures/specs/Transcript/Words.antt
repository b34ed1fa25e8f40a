-- The forms of the words of a line.
use Rattle.std.specs.Prelude.{ℕ, ◌%◌, ◌^◌, Bool, not, ◌&&◌, ◌||◌, List, length, take, drop, slice_index, codes, bytes_eq, nat_lt, nat_le, ◌==◌, Option, Some, None, is_some, if◌then◌else◌}
use Rattle.std.specs.Char.{is_ascii_digit}
use Rattle.std.specs.List.{list_all}
use Rattle.std.specs.Str.Parse.{digits_value}
use Rattle.pictures.specs.declared.transcript.forms.Form.{Form}

-- a 0 before another digit
abbrev pub has_leading_zero : List ℕ → Bool
has_leading_zero digits = nat_lt 1 (length digits) && slice_index digits 0 == 48

-- digits, with no needless leading 0
abbrev pub is_number : List ℕ → Bool
is_number text = nat_lt 0 (length text) && list_all is_ascii_digit text && not (has_leading_zero text)

-- the number below 2 ^ 64 that is written so
abbrev pub read_number : List ℕ → Option ℕ
read_number text = if is_number text && nat_lt (digits_value 10 text) (2 ^ 64) then Some (digits_value 10 text) else None

-- a digit of a byte, in lower case
abbrev pub is_hex_digit : ℕ → Bool
is_hex_digit byte = nat_le 48 byte && nat_le byte 57 || nat_le 97 byte && nat_le byte 102

-- two of them for each byte
abbrev pub is_hex : List ℕ → Bool
is_hex text = length text % 2 == 0 && list_all is_hex_digit text

-- bytes in hex, or a dash for none
abbrev pub is_bytes : List ℕ → Bool
is_bytes text = bytes_eq text (codes "-") || nat_lt 0 (length text) && is_hex text

-- what an event carries: a line after an x, a dash for nothing, or a number
abbrev pub is_payload : List ℕ → Bool
is_payload text =
    if bytes_eq (take 1 text) (codes "x") then is_hex (drop 1 text) else bytes_eq text (codes "-") || is_some (read_number text)

-- the word has the form
abbrev pub has_form : Form → List ℕ → Bool
has_form Form.Number word = is_some (read_number word)
has_form Form.Bytes word = is_bytes word
has_form Form.Payload word = is_payload word
has_form Form.Flag word = bytes_eq word (codes "true") || bytes_eq word (codes "false")
