-- Examples: strings of data, lines, titles and statuses.
use Rattle.std.proofs.Common.{◌≡◌, List, ◌∷◌, [], length, true, false, Some, None, codes, refl, arith}
use Rattle.clap.specs.Walk.{Row}
use Rattle.command_line.specs.CommandLine.{names_of}
use Rattle.command_line.specs.Statuses.{bad_sizes}
use Rattle.command_line.specs.declared.failure.Failure.{Failure}
use Rattle.mote_picture.specs.declared.undrawn.Undrawn.{Undrawn}
use Rattle.mote_picture.specs.Data.{has_no_opening, json_string}
use Rattle.mote_picture.specs.Named.{MayReport, clock_written, is_for_networks, title_of}
use Rattle.mote_picture.specs.Reading.{parts_of}
use Rattle.mote_picture.specs.Statuses.{status_of, text_of}

-- markup in a text ends nothing
markup : json_string (codes "</script><!--") ≡ codes "\"\\u003c/script>\\u003c!--\""
markup = refl

-- quotes, backslashes and line ends
quoted : json_string (codes "a\"b\\c\n") ≡ codes "\"a\\\"b\\\\c\\n\""
quoted = refl

-- a control character
control : json_string (7 ∷ []) ≡ codes "\"\\ufffd\""
control = refl

-- JSON of numbers ends nothing; a tag may
numbers : has_no_opening (codes "[1,null]") ≡ true
numbers = refl

tag : has_no_opening (codes "[</script>") ≡ false
tag = refl

-- an invalid line, clocks that go back, and statuses of other programs
no_line : status_of (Undrawn.NoLine 3) ≡ 2
no_line = refl

bad_range : status_of (Undrawn.BadRange 9 5) ≡ 64
bad_range = refl

no_sizes : status_of (Undrawn.Program bad_sizes) ≡ 64
no_sizes = refl

sizes_reported : text_of (Undrawn.Program bad_sizes) ≡ Some (codes "bad sizes")
sizes_reported = refl

-- the last line may have no end, and may be empty
lines : parts_of (codes "halt\n\ntoo") ≡ codes "halt" ∷ [] ∷ codes "too" ∷ []
lines = refl

ended : parts_of (codes "halt\n") ≡ codes "halt" ∷ []
ended = refl

no_lines : (parts_of [] ≡ []) × (parts_of (codes "\n") ≡ [] ∷ [])
no_lines = (refl, refl)

-- clocks have 64 bits
clocks : (clock_written (codes "18446744073709551615") ≡ Some 18446744073709551615)
    × (clock_written (codes "18446744073709551616") ≡ None) × (clock_written (codes "5k") ≡ None)
clocks = (refl, refl, refl)

title : title_of (codes "mote_picture" ∷ codes "--page" ∷ codes "relay" ∷ []) ≡ codes "mote relay"
title = refl

-- the end of the path counts
by_name : (is_for_networks (codes "/usr/bin/network-picture") ≡ true) × (is_for_networks (codes "network_picture") ≡ true)
    × (is_for_networks (codes "mote_picture") ≡ false) × (is_for_networks (codes "network_picture.old") ≡ false) × (is_for_networks [] ≡ false)
by_name = (refl, refl, refl, refl, refl)

-- facts on the words, reported only if they hold
module _ (rows : List Row) where
  sixteen : length (names_of rows) ≡ 16 → MayReport rows (Undrawn.Program Failure.TooManyApplications) → ⊥
  sixteen is many = omega (arith, is, many)

  no_range : MayReport rows (Undrawn.BadRange 5 9) → ⊥
  no_range back = omega (arith, back.2)

  not_for_the_words : MayReport rows Undrawn.QuietRange → ⊥
  not_for_the_words refused = refused
