-- A script: its lines, the inputs that they stand for, and how it ends.
use Rattle.std.specs.Prelude.{ℕ, ◌+◌, ◌*◌, ◌^◌, Bool, false, not, ◌&&◌, ◌||◌, List, [], ◌∷◌, length, take, drop, slice_index, codes, bytes_eq, Option, Some, None, option_map, option_and_then, if◌then◌else◌, ◌==◌, nat_le, nat_lt}
use Rattle.std.specs.Char.{is_ascii_digit}
use Rattle.std.specs.List.{list_all, slice_split}
use Rattle.std.specs.Option.{option_or}
use Rattle.std.specs.Result.{result_ok}
use Rattle.std.specs.Str.Parse.{digits_value}
use Rattle.hex.specs.Hex.{decode_of}
use Rattle.mote_types.specs.Kinds.{Bytes}
use Rattle.mote_types.specs.Limits.{frame_limit, serial_limit}
use Rattle.mote_types.specs.declared.entry.Input.{Input}
use Rattle.mote_text.specs.declared.script.End.{End}

-- digits, without a leading 0
abbrev pub is_number : Bytes → Bool
is_number text = nat_lt 0 (length text) && list_all is_ascii_digit text && not (nat_lt 1 (length text) && slice_index text 0 == 48)

-- the number that the text writes, if it is below 2 ^ 32
abbrev pub read_number : Bytes → Option ℕ
read_number text = if is_number text && nat_lt (digits_value 10 text) (2 ^ 32) then Some (digits_value 10 text) else None

-- from one to `most` bytes, each as two hex digits of either case
abbrev pub read_bytes : ℕ → Bytes → Option Bytes
read_bytes most digits = if nat_le 2 (length digits) && nat_le (length digits) (2 * most) then result_ok (decode_of digits) else None

-- what follows the word that the line begins with
abbrev pub argument_of : Bytes → Bytes → Option Bytes
argument_of word line = if bytes_eq (take (length word) line) word then Some (drop (length word) line) else None

-- an input, read from the text after the first word of its line
abbrev pub read_behind : {A : Type 0} → Bytes → (Bytes → Option A) → (A → Input) → Bytes → Option Input
read_behind word read input line = option_map input (option_and_then read (argument_of word line))

-- `tick N`, `serial HEX` or `frame HEX`
abbrev pub read_words : Bytes → Option Input
read_words line =
    option_or (read_behind (codes "tick ") read_number (λ n. Input.Tick n) line)
    (option_or (read_behind (codes "serial ") (read_bytes serial_limit) (λ bytes. Input.Serial (record { items = bytes })) line)
    (read_behind (codes "frame ") (read_bytes frame_limit) (λ bytes. Input.Frame (record { items = bytes })) line))

-- the most bytes of a line, without its end
abbrev pub line_limit : ℕ
line_limit = 1024

-- what a line says: an input, or nothing if it is empty or a comment. None if it is malformed
unfoldable pub read_line : Bytes → Option (Option Input)
read_line line =
    if nat_lt line_limit (length line) then None
    else if length line == 0 || slice_index line 0 == 35 then Some None
    else option_map (λ input. Some input) (read_words line)

-- the most bytes of a script that are read
unfoldable pub script_limit : ℕ
script_limit = 16_777_216

abbrev pub is_too_long : Bytes → Bool
is_too_long bytes = nat_lt script_limit (length bytes)

-- the parts of a text between its line ends; the last part has no line end
abbrev pub parts : Bytes → List Bytes
parts bytes = slice_split (λ byte. byte == 10) bytes

-- these parts; the last one only if this holds of it
abbrev pub with_last_if : (Bytes → Bool) → List Bytes → List Bytes
with_last_if holds [] = []
with_last_if holds (last ∷ []) = if holds last then last ∷ [] else []
with_last_if holds (part ∷ next ∷ later) = part ∷ with_last_if holds (next ∷ later)

-- the lines whose end is among these bytes
abbrev pub whole_lines : Bytes → List Bytes
whole_lines bytes = with_last_if (λ last. false) (parts bytes)

-- whether the text after the last line end counts as a line: it is too long for a line, or it isn't empty and the script ends there
abbrev pub is_line : Bool → Bytes → Bool
is_line is_end rest = nat_lt line_limit (length rest) || is_end && nat_lt 0 (length rest)

-- the lines of a script; the last one may have no line end
abbrev pub lines_of : Bytes → List Bytes
lines_of bytes = with_last_if (is_line (not (is_too_long bytes))) (parts (take script_limit bytes))

-- the lines of a script that is read as a whole, which has no limit here; the last one may have no line end
abbrev pub script_lines : Bytes → List Bytes
script_lines bytes = with_last_if (λ last. nat_lt 0 (length last)) (parts bytes)

-- the inputs and the end from line n on, by what line n says and what the lines after it give
abbrev pub with_line : ℕ → Option (Option Input) → List Input × End → List Input × End
with_line n None later = ([], End.BadLine n)
with_line n (Some None) later = later
with_line n (Some (Some input)) later = (input ∷ later.0, later.1)

-- the inputs of these lines, the first of which has the number n. `end` is the end of a script with no malformed line
abbrev pub read_lines : ℕ → End → List Bytes → List Input × End
read_lines n end [] = ([], end)
read_lines n end (line ∷ lines) = with_line n (read_line line) (read_lines (n + 1) end lines)

-- the inputs of the lines before the first malformed line, and how the script ends
unfoldable pub inputs : Bytes → List Input × End
inputs bytes = read_lines 1 (if is_too_long bytes then End.TooLong else End.Finished) (lines_of bytes)
