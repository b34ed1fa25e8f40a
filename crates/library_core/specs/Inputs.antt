-- What the numbers and bytes of an input say.
use Rattle.std.specs.Prelude.{ℕ, List, [], length, if◌then◌else◌, ◌==◌, nat_le}
use Rattle.mote_types.specs.declared.entry.Input.{Input}

-- all of them, where these are not too many
abbrev pub bytes_if_few : ℕ → List ℕ → List ℕ
bytes_if_few most bytes = if nat_le (length bytes) most then bytes else []

-- an input of no bytes, which every mote refuses, where there is no such kind, or there are too many bytes
abbrev pub input_said : ℕ → ℕ → List ℕ → Input
input_said kind ticks bytes =
    if kind == 0 then Input.Tick ticks
    else if kind == 1 then Input.Serial (record { items = bytes_if_few 256 bytes })
    else if kind == 2 then Input.Frame (record { items = bytes_if_few 127 bytes })
    else Input.Serial (record { items = [] })
