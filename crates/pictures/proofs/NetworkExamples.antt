-- Examples: lines of a network, captures and flights.
use Rattle.std.proofs.Common.{◌≡◌, ℕ, List, [], ◌∷◌, map, true, false, codes, Some, None, refl}
use Rattle.std.specs.Fmt.{digits}
use Rattle.hex.specs.Hex.{decode_pairs}
use denote.Ref.{Bor}
use Rattle.pictures.specs.declared.transcript.line.Ending.{Ending}
use Rattle.pictures.specs.declared.transcript.line.Input.{Input}
use Rattle.pictures.specs.declared.transcript.line.Line.{Line}
use Rattle.pictures.specs.declared.transcript.line.Note.{Note}
use Rattle.pictures.specs.Transcript.Forms.{is_line}
use Rattle.pictures.specs.Words.{bytes_in}
use Rattle.pictures.specs.Network.Capture.{global_header, is_late, lengths_of, moment_of, record_of, sends}
use Rattle.pictures.specs.Network.Flights.{clocks, is_way}
use Rattle.pictures.specs.Network.Lines.{clock_in, is_network_line, mote_in, network_line_text}
use Rattle.pictures.specs.declared.network.flights.Fate.{Fate}
use Rattle.pictures.specs.declared.network.flights.Flight.{Flight}
use Rattle.pictures.specs.declared.network.line.NetworkLine.{NetworkLine}

-- ---- lines

own_lines : map network_line_text
    (NetworkLine.Clock 14 ∷ NetworkLine.Lost 1 2 ∷ NetworkLine.Missed 3 12 ∷ NetworkLine.Unheard 2 ∷ NetworkLine.Ending Ending.Halt ∷ [])
    ≡ codes "= 14" ∷ codes "lost 1 2" ∷ codes "missed 3 12" ∷ codes "missed - 2" ∷ codes "halt" ∷ []
unfolding digits
own_lines = refl

line_of_a_mote : network_line_text (NetworkLine.Mote 2 (Line.Input (Input.Tick 3))) ≡ codes "2 > tick 3"
unfolding digits
line_of_a_mote = refl

-- no mote 0, and a mote's script isn't malformed
no_line : map is_network_line (NetworkLine.Lost 1 0 ∷ NetworkLine.Mote 1 (Line.Ending (Ending.BadLine 3)) ∷ []) ≡ false ∷ false ∷ []
unfolding is_line
no_line = refl

a_line : map is_network_line (NetworkLine.Lost 1 2 ∷ NetworkLine.Mote 1 (Line.Ending Ending.Halt) ∷ []) ≡ true ∷ true ∷ []
unfolding is_line
a_line = refl

clocks_in : map clock_in (codes "= 14" ∷ codes "= 014" ∷ codes "=14" ∷ codes "1 halt" ∷ []) ≡ Some (NetworkLine.Clock 14) ∷ None ∷ None ∷ None ∷ []
clocks_in = refl

motes : map mote_in (codes "1" ∷ codes "0" ∷ codes "01" ∷ []) ≡ Some 1 ∷ None ∷ None ∷ []
motes = refl

-- ---- captures

header : global_header ≡ 212 ∷ 195 ∷ 178 ∷ 161 ∷ 2 ∷ 0 ∷ 4 ∷ 0 ∷ 0 ∷ 0 ∷ 0 ∷ 0 ∷ 0 ∷ 0 ∷ 0 ∷ 0 ∷ 127 ∷ 0 ∷ 0 ∷ 0 ∷ 230 ∷ 0 ∷ 0 ∷ 0 ∷ []
unfolding global_header
header = refl

-- of ticks of a millisecond, tick 1,002 is 2,000 microseconds after second 1
record_at : record_of 1000 1002 (10 ∷ 11 ∷ []) ≡ 1 ∷ 0 ∷ 0 ∷ 0 ∷ 208 ∷ 7 ∷ 0 ∷ 0 ∷ 2 ∷ 0 ∷ 0 ∷ 0 ∷ 2 ∷ 0 ∷ 0 ∷ 0 ∷ 10 ∷ 11 ∷ []
unfolding moment_of lengths_of
record_at = refl

-- of 128 ticks a second, tick 129 is 7,812 microseconds and a half after second 1: the half is cut off
cut_off : moment_of 128 129 ≡ 1 ∷ 0 ∷ 0 ∷ 0 ∷ 132 ∷ 30 ∷ 0 ∷ 0 ∷ []
unfolding moment_of
cut_off = refl

late : map (is_late 1000) (4294967295999 ∷ 4294967296000 ∷ []) ≡ false ∷ true ∷ []
late = refl

late_by_seconds : map (is_late 128) (549755813887 ∷ 549755813888 ∷ []) ≡ false ∷ true ∷ []
late_by_seconds = refl

bytes : map bytes_in (codes "0a0b" ∷ codes "-" ∷ []) ≡ (10 ∷ 11 ∷ []) ∷ [] ∷ []
unfolding decode_pairs
bytes = refl

module _ (digits : Bor (List ℕ)) where
  abbrev lines : List NetworkLine
  lines =
      NetworkLine.Clock 3 ∷ NetworkLine.Mote 2 (Line.Input (Input.Frame digits)) ∷ NetworkLine.Mote 2 (Line.Note (Note.Sent digits))
      ∷ NetworkLine.Clock 4 ∷ NetworkLine.Mote 2 (Line.Note (Note.Lost 1)) ∷ []

  -- sent at 3: frames that are heard or lost are not sent
  sent : sends 0 lines ≡ record { clock = 3; digits = digits } ∷ []
  sent = refl

  moments : clocks 0 lines ≡ 3 ∷ 3 ∷ 3 ∷ 4 ∷ 4 ∷ []
  moments = refl

-- ---- flights

abbrev flight : Flight
flight = record { from = 1; to = 2; sent = 0; ended = 1; fate = Fate.Heard }

-- the link from 1 to 2, with its delay
ways : map (is_way (5 ∷ 8 ∷ []) flight)
    (record { from = 1; to = 2; delay = 3 } ∷ record { from = 1; to = 2; delay = 2 } ∷ record { from = 2; to = 1; delay = 3 } ∷ [])
    ≡ true ∷ false ∷ false ∷ []
ways = refl
