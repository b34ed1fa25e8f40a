-- What the words of the command line name, and the name by which the program is started.
use Rattle.std.specs.Prelude.{◌≡◌, ◌<◌, ◌≤◌, ◌-◌, ◌^◌, ◌==◌, ◌||◌, ◌⊎◌, ⊤, ℕ, Bool, true, false, List, [], ◌∷◌, ◌++◌, length, flat_map, codes, bytes_eq, Option, Some, None, unwrap_or, option_and_then, if◌then◌else◌}
use Rattle.std.specs.List.{ends_with}
use Rattle.std.specs.Str.Parse.{digits_value, without_leading_plus}
use Rattle.clap.specs.ValueTests.{is_unsigned_in}
use Rattle.clap.specs.Walk.{Row, Text, one_of, texts}
use Rattle.command_line.specs.CommandLine.{names_of, sizes_of}
use Rattle.command_line.specs.declared.failure.Failure.{Failure}
use Rattle.mote_types.specs.declared.fault.BootFault.{BootFault}
use Rattle.mote_types.specs.declared.fault.MoteFault.{MoteFault}
use Rattle.node_memory.specs.Sizes.{are_sizes}
use Rattle.node_memory.specs.declared.sizes.Sizes.{Sizes as MemorySizes}
use Rattle.pictures.specs.declared.memory.Sizes.{Sizes}
use Rattle.mote_picture.specs.CommandLine.{IsByParser}
use Rattle.mote_picture.specs.declared.named.Form.{Form}
use Rattle.mote_picture.specs.declared.named.Named.{Named}
use Rattle.mote_picture.specs.declared.undrawn.Undrawn.{Undrawn}

-- ---- by what the parser found

-- the sizes, as pictures have them
abbrev pub shown_sizes : MemorySizes → Sizes
shown_sizes sizes = record { managed = sizes.mmem; quota = sizes.quota; heap = sizes.heap; header = sizes.header }

-- the clock that a text writes, if it writes one
abbrev pub clock_written : Text → Option ℕ
clock_written text = if is_unsigned_in 0 (2 ^ 64 - 1) text then Some (digits_value 10 (without_leading_plus text)) else None

-- the clock of an option, otherwise another one
abbrev pub clock_of : Text → ℕ → List Row → ℕ
clock_of option otherwise rows = unwrap_or (option_and_then clock_written (one_of option rows)) otherwise

-- the run is shown from its beginning and up to its end where no option says otherwise
abbrev pub from_of : List Row → ℕ
from_of = clock_of (codes "from") 0

abbrev pub to_of : List Row → ℕ
to_of = clock_of (codes "to") (2 ^ 64 - 1)

-- the parser stores one of two texts for a flag
abbrev pub IsSet : List Row → Text → Type 0
IsSet rows flag = one_of flag rows ≡ Some (codes "true")

abbrev pub IsUnset : List Row → Text → Type 0
IsUnset rows flag = one_of flag rows ≡ Some (codes "false")

-- a page or a dump where it is asked for, otherwise a picture
pub record IsForm (rows : List Row) (form : Form) : Type 0 where
  pub page : IsSet rows (codes "page") → form ≡ Form.Page
  pub dump : IsUnset rows (codes "page") → IsSet rows (codes "vcd") → form ≡ Form.Dump
  pub picture : IsUnset rows (codes "page") → IsUnset rows (codes "vcd") → form ≡ Form.Picture

-- the form, the names, which are at most 16, sizes that a mote with this number of applications may have, clocks that don't go back, and
-- whether each line has its own row
pub record IsNamed (rows : List Row) (named : Named) : Type 0 where
  pub form : IsForm rows named.form
  pub names : texts named.names.items ≡ names_of rows
  pub few : length (names_of rows) ≤ 16
  pub sizes : named.sizes ≡ shown_sizes (sizes_of rows)
  pub allowed : are_sizes (sizes_of rows) (length (names_of rows)) ≡ true
  pub from : named.from ≡ from_of rows
  pub to : named.to ≡ to_of rows
  pub order : named.from ≤ named.to
  pub unfolded : IsSet rows (codes "unfolded") → named.unfolded ≡ true
  pub folded : IsUnset rows (codes "unfolded") → named.unfolded ≡ false

-- what a number of applications and these sizes may be refused with: each reason only where it holds
abbrev pub MayRefuse : MemorySizes → ℕ → Failure → Type 0
MayRefuse sizes applications Failure.TooManyApplications = 16 < applications
MayRefuse sizes applications (Failure.Mote (MoteFault.Boot BootFault.BadSizes)) = are_sizes sizes applications ≡ false
MayRefuse sizes applications (Failure.Mote (MoteFault.Boot BootFault.Memory)) = ⊤
MayRefuse sizes applications failure = ⊥

-- the clocks, which go back
abbrev pub IsBackwards : List Row → Undrawn → Type 0
IsBackwards rows (Undrawn.BadRange from to) = (from ≡ from_of rows) × (to ≡ to_of rows) × (to < from)
IsBackwards rows undrawn = ⊥

-- what may be reported then
abbrev pub MayReport : List Row → Undrawn → Type 0
MayReport rows (Undrawn.Program failure) = MayRefuse (sizes_of rows) (length (names_of rows)) failure
MayReport rows undrawn = IsBackwards rows undrawn

-- what may be reported of arguments: what the parser says, otherwise what these rows don't allow
abbrev pub IsOfWords : List Row → Undrawn → Type 0
IsOfWords rows (Undrawn.Program failure) = IsByParser failure ⊎ MayRefuse (sizes_of rows) (length (names_of rows)) failure
IsOfWords rows undrawn = IsBackwards rows undrawn

-- ---- the title

-- the one that asks for a page is left out
abbrev pub title_word : Text → Text
title_word word = if bytes_eq word (codes "--page") then [] else codes " " ++ word

-- the words, where the first is the program's name
abbrev pub title_of : List Text → Text
title_of [] = codes "mote"
title_of (program ∷ words) = codes "mote" ++ flat_map title_word words

-- ---- the name of the program

-- the path ends in this name
abbrev pub is_called : Text → Text → Bool
is_called name path = ends_with (λ a b. a == b) path name

-- it draws networks by its other name, and by that of the command
abbrev pub is_for_networks : Text → Bool
is_for_networks path = is_called (codes "network_picture") path || is_called (codes "network-picture") path
