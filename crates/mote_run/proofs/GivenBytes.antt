-- A frame line has at least one byte, and a tick line a number below 2 ^ 32.
use Rattle.std.proofs.Common.{◌≡◌, ℕ, Bool, true, false, List, length, refl, sym, arith, Option, Some, None, ◌==◌, ◌||◌, slice_index, Result, Ok, Err, option_map, option_and_then, if◌then◌else◌, nat_lt, codes, IfOk}
use Rattle.std.specs.Option.{option_or}
use Rattle.mote_run.proofs.Common.{Input, argument_of, read_behind, read_bytes, read_number, read_line, read_words, line_limit, Taken, BadLine, CanBeFed, ReadPart, said}
use Rattle.std.proofs.lemmas.Bool.{and_parts}
use Rattle.hex.proofs.HexLemmas.{decode_of-ok}

one_of : {A P : Type 0} (a b : Option A) (x : A) → option_or a b ≡ Some x → (a ≡ Some x → P) → (b ≡ Some x → P) → P
one_of (Some y) b x e first second = first e
one_of None b x e first second = second e

some_bytes : (most : ℕ) (digits bytes : List ℕ) → read_bytes most digits ≡ Some bytes → nat_lt 0 (length bytes) ≡ true
some_bytes most digits bytes e = grind (arith, and_parts, decode_of-ok)

framed : (given : Option (List ℕ)) (input : Input) → ((bytes : List ℕ) → given ≡ Some bytes → nat_lt 0 (length bytes) ≡ true)
    → option_map (λ bytes. Input.Frame (record { items = bytes })) given ≡ Some input → CanBeFed input
framed None input some e = absurd (cc)
framed (Some bytes) input some e = let here = some bytes refl in grind arith

frame_fits : (argument : Option (List ℕ)) (input : Input)
    → option_map (λ bytes. Input.Frame (record { items = bytes })) (option_and_then (read_bytes 127) argument) ≡ Some input → CanBeFed input
frame_fits None input e = absurd (cc)
frame_fits (Some digits) input e = framed (read_bytes 127 digits) input (some_bytes 127 digits) e

module _ (argument : Option (List ℕ)) (input : Input) where
  tick_fits : option_map (λ n. Input.Tick n) (option_and_then read_number argument) ≡ Some input → CanBeFed input
  tick_fits e = grind arith

  serial_fits : option_map (λ bytes. Input.Serial (record { items = bytes })) (option_and_then (read_bytes 256) argument) ≡ Some input
      → CanBeFed input
  serial_fits e = grind arith

module _ (line : List ℕ) where
  abbrev tick : Option Input
  tick = read_behind (codes "tick ") read_number (λ n. Input.Tick n) line

  abbrev serial : Option Input
  serial = read_behind (codes "serial ") (read_bytes 256) (λ bytes. Input.Serial (record { items = bytes })) line

  abbrev frame : Option Input
  frame = read_behind (codes "frame ") (read_bytes 127) (λ bytes. Input.Frame (record { items = bytes })) line

  abbrev says_nothing : Bool
  says_nothing = length line == 0 || slice_index line 0 == 35

words_give : (wide nothing : Bool) (words : Option Input) (input : Input)
    → (if wide then None else if nothing then Some None else option_map (λ x. Some x) words) ≡ Some (Some input) → words ≡ Some input
words_give wide nothing words input e = grind arith

pub input_can_be_fed : (line : List ℕ) (input : Input) → read_line line ≡ Some (Some input) → CanBeFed input
unfolding read_line
input_can_be_fed line input e =
    one_of (tick line) (option_or (serial line) (frame line)) input
    (words_give (nat_lt line_limit (length line)) (says_nothing line) (read_words line) input e)
    (tick_fits (argument_of (codes "tick ") line) input)
    (λ other. one_of (serial line) (frame line) input other (serial_fits (argument_of (codes "serial ") line) input)
    (frame_fits (argument_of (codes "frame ") line) input))

-- also if a take ended the line
said_can_be_fed : (last : Taken) (bytes : List ℕ) (input : Input) → said last bytes ≡ Some (Some input) → CanBeFed input
said_can_be_fed Taken.Line bytes input says = input_can_be_fed bytes input says
said_can_be_fed Taken.More bytes input says = absurd (cc)
said_can_be_fed Taken.TooWide bytes input says = absurd (cc)

pub part_can_be_fed : {line piece line_later : List ℕ} {used number number_later : ℕ} {input : Input} (says : Result Bool BadLine) →
    ReadPart line piece line_later used number number_later says input → IfOk says (λ is_input. is_input ≡ true → CanBeFed input)
part_can_be_fed {input = input} (Ok true) r = λ h. said_can_be_fed r.last r.bytes input (sym r.says_so)
part_can_be_fed (Ok false) r = λ h. absurd (cc)
part_can_be_fed (Err fault) r = tt
