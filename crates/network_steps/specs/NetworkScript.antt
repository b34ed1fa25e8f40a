-- What the lines of a network's script say after the first ones, which set the network up.
use Rattle.std.specs.Prelude.{ℕ, ◌+◌, Bool, true, ◌&&◌, ◌||◌, List, [], ◌∷◌, length, slice_index, Option, None, Some, option_and_then, option_map, if◌then◌else◌, ◌==◌, nat_le, nat_lt}
use Rattle.std.specs.Option.{option_or}
use Rattle.mote_text.specs.Script.{line_limit, read_line, read_number}
use Rattle.mote_text.specs.declared.script.End.{End}
use Rattle.mote_types.specs.declared.entry.Input.{Input}
use Rattle.network_steps.specs.declared.input.NetworkInput.{NetworkInput}

-- the bytes before the first space, and those after it
abbrev pub parted : List ℕ → Option (List ℕ × List ℕ)
parted [] = None
parted (byte ∷ line) =
    if byte == 32 then Some ([], line) else option_map (λ (parts : List ℕ × List ℕ). (byte ∷ parts.0, parts.1)) (parted line)

-- a tick is for the network
abbrev pub tick_of : Option (Option Input) → Option NetworkInput
tick_of (Some (Some (Input.Tick n))) = Some (NetworkInput.Tick n)
tick_of _ = None

-- serial bytes and frames are for the mote of this number
abbrev pub for_mote : Option (Option Input) → ℕ → Option NetworkInput
for_mote (Some (Some (Input.Serial bytes))) number = Some (NetworkInput.ForMote number (Input.Serial bytes))
for_mote (Some (Some (Input.Frame bytes))) number = Some (NetworkInput.ForMote number (Input.Frame bytes))
for_mote _ number = None

-- a number, and what follows the space after it, as a line of a mote's script
abbrev pub read_for_mote : List ℕ × List ℕ → Option NetworkInput
read_for_mote parts = option_and_then (for_mote (read_line parts.1)) (read_number parts.0)

-- `tick N`, `N serial HEX` or `N frame HEX`
abbrev pub read_network_input : List ℕ → Option NetworkInput
read_network_input line = option_or (tick_of (read_line line)) (option_and_then read_for_mote (parted line))

-- a network with this number of motes has the mote that an input is for
abbrev pub is_for_some : ℕ → NetworkInput → Bool
is_for_some motes (NetworkInput.Tick n) = true
is_for_some motes (NetworkInput.ForMote number input) = nat_le 1 number && nat_le number motes

-- an input, if there is the mote that it is for
abbrev pub if_for_some : ℕ → Option NetworkInput → Option (Option NetworkInput)
if_for_some motes None = None
if_for_some motes (Some input) = if is_for_some motes input then Some (Some input) else None

-- what a line says: an input, or nothing where it is empty or a comment. None, where it is malformed, or for a mote that doesn't exist
abbrev pub read_network_line : ℕ → List ℕ → Option (Option NetworkInput)
read_network_line motes line =
    if nat_lt line_limit (length line) then None
    else if length line == 0 || slice_index line 0 == 35 then Some None else if_for_some motes (read_network_input line)

-- line n and what the lines after it say
abbrev pub with_network_line : ℕ → Option (Option NetworkInput) → List NetworkInput × End → List NetworkInput × End
with_network_line n None later = ([], End.BadLine n)
with_network_line n (Some None) later = later
with_network_line n (Some (Some input)) later = (input ∷ later.0, later.1)

-- the inputs of these lines, whose first has the number n, up to the first malformed one; and how a run on them ends
abbrev pub read_network_lines : ℕ → ℕ → List (List ℕ) → List NetworkInput × End
read_network_lines motes n [] = ([], End.Finished)
read_network_lines motes n (line ∷ lines) = with_network_line n (read_network_line motes line) (read_network_lines motes (n + 1) lines)
