-- The lines of a transcript that comes as bytes.
use Rattle.std.specs.Prelude.{ℕ, ◌-◌, ◌<◌, ◌≡◌, IsUtf8, List, [], length, take, slice_index, All, if◌then◌else◌, ◌==◌}
use Rattle.std.specs.List.{slice_index_or, slice_split}
use Rattle.pictures.specs.Transcript.Forms.{Says}
use Rattle.pictures.specs.declared.transcript.line.Line.{Line}
use Rattle.mote_picture.specs.Statuses.{out_of_memory}
use Rattle.mote_picture.specs.declared.undrawn.Undrawn.{Undrawn}

-- without the line end after them
abbrev pub without_end : List ℕ → List ℕ
without_end bytes = if slice_index bytes (length bytes - 1) == 10 then take (length bytes - 1) bytes else bytes

-- what is between the line ends
abbrev pub parts_of : List ℕ → List (List ℕ)
parts_of bytes = if length bytes == 0 then [] else slice_split (λ byte. byte == 10) (without_end bytes)

-- a line of a transcript: text that says something
abbrev pub IsLine : List ℕ → Type 0
IsLine line = IsUtf8 line × ((read : Line) × Says line read)

-- why the parts were not read: the one of the number is the first that is no line of a transcript, or memory was refused
abbrev pub IsUnread : List (List ℕ) → Undrawn → Type 0
IsUnread parts (Undrawn.NoLine number) =
    (0 < number) × (number - 1 < length parts) × All IsLine (take (number - 1) parts)
    × (IsLine (slice_index_or parts (number - 1) []) → ⊥)
IsUnread parts undrawn = undrawn ≡ out_of_memory
