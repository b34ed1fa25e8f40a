-- Inputs that lines say come from outside: they have at least one byte.
use Rattle.std.proofs.Common.{◌≡◌, ℕ, Bool, true, false, List, length, refl, arith, Option, Some, None, ◌==◌, ◌||◌, slice_index, option_map, option_and_then, if◌then◌else◌, nat_lt, codes}
use Rattle.std.specs.Option.{option_or}
use Rattle.std.proofs.lemmas.Bool.{and_parts}
use Rattle.hex.proofs.HexLemmas.{decode_of-ok}
use Rattle.mote_session.specs.Refusals.{is_input}
use Rattle.mote_text.specs.Script.{argument_of, line_limit, read_behind, read_bytes, read_line, read_number, read_words}
use Rattle.mote_types.specs.declared.entry.Input.{Input}
use Rattle.network_run.specs.Code.Ready.{ComesFromOutside, IsFromOutside}
use Rattle.network_steps.specs.NetworkScript.{for_mote, if_for_some, is_for_some, parted, read_for_mote, read_network_input, read_network_line, tick_of}
use Rattle.network_steps.specs.declared.input.NetworkInput.{NetworkInput}

one_of : {A P : Type 0} (a b : Option A) (x : A) → option_or a b ≡ Some x → (a ≡ Some x → P) → (b ≡ Some x → P) → P
one_of (Some y) b x e first second = first e
one_of None b x e first second = second e

some_bytes : (most : ℕ) (digits bytes : List ℕ) → read_bytes most digits ≡ Some bytes → nat_lt 0 (length bytes) ≡ true
some_bytes most digits bytes e = grind (arith, and_parts, decode_of-ok)

bytes_fit : (most : ℕ) (argument : Option (List ℕ)) (bytes : List ℕ) → option_and_then (read_bytes most) argument ≡ Some bytes →
    nat_lt 0 (length bytes) ≡ true
bytes_fit most None bytes e = absurd (cc)
bytes_fit most (Some digits) bytes e = some_bytes most digits bytes e

tick_fits : (given : Option ℕ) (input : Input) → option_map (λ n. Input.Tick n) given ≡ Some input → is_input input ≡ true
tick_fits None input e = absurd (cc)
tick_fits (Some n) input e = let same : Input.Tick n ≡ input = cc in rw (← same) refl

serial_fits : (given : Option (List ℕ)) (input : Input) → ((bytes : List ℕ) → given ≡ Some bytes → nat_lt 0 (length bytes) ≡ true) →
    option_map (λ bytes. Input.Serial (record { items = bytes })) given ≡ Some input → is_input input ≡ true
serial_fits None input some e = absurd (cc)
serial_fits (Some bytes) input some e =
    let same : Input.Serial (record { items = bytes }) ≡ input = cc in rw (← same) (some bytes refl)

frame_fits : (given : Option (List ℕ)) (input : Input) → ((bytes : List ℕ) → given ≡ Some bytes → nat_lt 0 (length bytes) ≡ true) →
    option_map (λ bytes. Input.Frame (record { items = bytes })) given ≡ Some input → is_input input ≡ true
frame_fits None input some e = absurd (cc)
frame_fits (Some bytes) input some e =
    let same : Input.Frame (record { items = bytes }) ≡ input = cc in rw (← same) (some bytes refl)

words_give : (wide nothing : Bool) (words : Option Input) (input : Input) →
    (if wide then None else if nothing then Some None else option_map (λ x. Some x) words) ≡ Some (Some input) → words ≡ Some input
words_give wide nothing words input e = grind arith

-- an input that a line says has at least one byte, or is a tick
read_is_input : (line : List ℕ) (input : Input) → read_line line ≡ Some (Some input) → is_input input ≡ true
unfolding read_line
read_is_input line input e =
    one_of (read_behind (codes "tick ") read_number (λ n. Input.Tick n) line)
    (option_or (read_behind (codes "serial ") (read_bytes 256) (λ bytes. Input.Serial (record { items = bytes })) line)
    (read_behind (codes "frame ") (read_bytes 127) (λ bytes. Input.Frame (record { items = bytes })) line)) input
    (words_give (nat_lt line_limit (length line)) (length line == 0 || slice_index line 0 == 35) (read_words line) input e)
    (tick_fits (option_and_then read_number (argument_of (codes "tick ") line)) input)
    (λ other. one_of (read_behind (codes "serial ") (read_bytes 256) (λ bytes. Input.Serial (record { items = bytes })) line)
    (read_behind (codes "frame ") (read_bytes 127) (λ bytes. Input.Frame (record { items = bytes })) line) input other
    (serial_fits (option_and_then (read_bytes 256) (argument_of (codes "serial ") line)) input (bytes_fit 256 (argument_of (codes "serial ") line)))
    (frame_fits (option_and_then (read_bytes 127) (argument_of (codes "frame ") line)) input (bytes_fit 127 (argument_of (codes "frame ") line))))

said_for_mote : (said : Option (Option Input)) (k number : ℕ) (input : Input) → ((one : Input) → said ≡ Some (Some one) → is_input one ≡ true) →
    for_mote said k ≡ Some (NetworkInput.ForMote number input) → IsFromOutside input
said_for_mote None k number input is e = absurd (cc)
said_for_mote (Some None) k number input is e = absurd (cc)
said_for_mote (Some (Some (Input.Tick n))) k number input is e = absurd (cc)
said_for_mote (Some (Some (Input.Serial bytes))) k number input is e =
    let same : Input.Serial bytes ≡ input = cc in rw (← same) (record { timeless = refl; bytes = is (Input.Serial bytes) refl })
said_for_mote (Some (Some (Input.Frame bytes))) k number input is e =
    let same : Input.Frame bytes ≡ input = cc in rw (← same) (record { timeless = refl; bytes = is (Input.Frame bytes) refl })

no_tick : (said : Option (Option Input)) (number : ℕ) (input : Input) → tick_of said ≡ Some (NetworkInput.ForMote number input) → IsFromOutside input
no_tick None number input e = absurd (cc)
no_tick (Some None) number input e = absurd (cc)
no_tick (Some (Some (Input.Tick n))) number input e = absurd (cc)
no_tick (Some (Some (Input.Serial bytes))) number input e = absurd (cc)
no_tick (Some (Some (Input.Frame bytes))) number input e = absurd (cc)

numbered : (k : Option ℕ) (text : List ℕ) (number : ℕ) (input : Input) →
    option_and_then (for_mote (read_line text)) k ≡ Some (NetworkInput.ForMote number input) → IsFromOutside input
numbered None text number input e = absurd (cc)
numbered (Some k) text number input e = said_for_mote (read_line text) k number input (read_is_input text) e

in_parts : (parts : Option (List ℕ × List ℕ)) (number : ℕ) (input : Input) →
    option_and_then read_for_mote parts ≡ Some (NetworkInput.ForMote number input) → IsFromOutside input
in_parts None number input e = absurd (cc)
in_parts (Some parts) number input e = numbered (read_number parts.0) parts.1 number input e

read_outside : (line : List ℕ) (input : NetworkInput) → read_network_input line ≡ Some input → ComesFromOutside input
read_outside line (NetworkInput.Tick ticks) e = tt
read_outside line (NetworkInput.ForMote number input) e =
    one_of (tick_of (read_line line)) (option_and_then read_for_mote (parted line)) (NetworkInput.ForMote number input) e
    (no_tick (read_line line) number input) (in_parts (parted line) number input)

outside_so : (line : List ℕ) (said input : NetworkInput) (is : Bool) → read_network_input line ≡ Some said →
    Some (Some input) ≡ (if is then Some (Some said) else None) → ComesFromOutside input
outside_so line said input true read e = let same : said ≡ input = cc in rw (← same) (read_outside line said read)
outside_so line said input false read e = absurd (cc)

outside_by : (motes : ℕ) (line : List ℕ) (input : NetworkInput) (long blank : Bool) (said : Option NetworkInput) → read_network_input line ≡ said →
    Some (Some input) ≡ (if long then None else if blank then Some None else if_for_some motes said) → ComesFromOutside input
outside_by motes line input true blank said read e = absurd (cc)
outside_by motes line input false true said read e = absurd (cc)
outside_by motes line input false false None read e = absurd (cc)
outside_by motes line input false false (Some said) read e = outside_so line said input (is_for_some motes said) read e

pub line_outside : (motes : ℕ) (line : List ℕ) (input : NetworkInput) → Some (Some input) ≡ read_network_line motes line → ComesFromOutside input
line_outside motes line input e =
    outside_by motes line input (nat_lt line_limit (length line)) (length line == 0 || slice_index line 0 == 35) (read_network_input line) refl e
