-- The text of a network: each mote's lines with its number in front, and lines of the network's own.
use Rattle.std.specs.Prelude.{ℕ, ◌+◌, Bool, true, false, not, List, [], ◌∷◌, ◌++◌, flat_map, codes, decimal, Option, None, Some}
use Rattle.arrayvec.specs.ArrayVec.{ArrayVec}
use Rattle.medium_core.specs.Air.{Air, arrival, gone_on, links_from}
use Rattle.medium_core.specs.Laws.{all_done}
use Rattle.medium_core.specs.declared.flight.Flight.{Flight}
use Rattle.medium_core.specs.declared.link.Fate.{Fate}
use Rattle.medium_core.specs.declared.link.Link.{Link}
use Rattle.mote_session.specs.Sent.{sent_by_entry}
use Rattle.mote_text.specs.EntryText.{Word, entry_line, line_of}
use Rattle.mote_text.specs.Transcript.{final_line, is_shown}
use Rattle.mote_text.specs.declared.script.End.{End}
use Rattle.mote_types.specs.declared.entry.Entry.{Entry}
use Rattle.network_session.specs.Happenings.{Happening, deeds_of}

-- The number of a mote in texts: the first one is 1
abbrev pub mote_number : ℕ → Word
mote_number m = decimal (m + 1)

-- `1 > tick 3`: the line of an entry that mote m made, with the mote's number in front
abbrev pub mote_line : ℕ → Entry → List ℕ
mote_line m entry = mote_number m ++ (codes " " ++ entry_line entry)

-- `= 14`: the clock went on to this moment
abbrev pub clock_line : ℕ → List ℕ
clock_line clock = line_of (codes "=" ∷ decimal clock ∷ [])

-- a word, and two motes: of a frame from the first one to the second one
abbrev pub frame_line : Word → ℕ → ℕ → List ℕ
frame_line word from to = line_of (word ∷ mote_number from ∷ mote_number to ∷ [])

-- `lost 1 2`, where the link's rule lost the frame; `full 1 2`, where it found no room in flight
abbrev pub fate_line : ℕ → ℕ → Fate → List ℕ
fate_line from to Fate.Lost = frame_line (codes "lost") from to
fate_line from to Fate.Full = frame_line (codes "full") from to
fate_line from to _ = []

-- a line for each of the sender's links that didn't carry the frame that was sent last
abbrev pub fate_lines : ℕ → List Link → List ℕ
fate_lines from links = flat_map (λ (link : Link). fate_line from link.to link.last) links

-- what became of the frame that m has just sent, if it has sent one: the air is as that left it
abbrev pub sent_lines : ℕ → Option (ArrayVec ℕ) → Air → List ℕ
sent_lines m None air = []
sent_lines m (Some bytes) air = fate_lines m (links_from m air)

-- `missed 1 2`: nobody hears the frame that arrives
abbrev pub missed_line : Option Flight → List ℕ
missed_line None = []
missed_line (Some flight) = frame_line (codes "missed") flight.from flight.to

-- `missed - 2`: mote m was halted before an input from outside
abbrev pub unheard_line : ℕ → List ℕ
unheard_line m = line_of (codes "missed" ∷ codes "-" ∷ mote_number m ∷ [])

-- the last line: `halt` if an input has used up its rounds; otherwise as that of a mote
abbrev pub last_line : End → List ℕ
last_line End.Halted = line_of (codes "halt" ∷ [])
last_line end = final_line end

-- this text, where it is shown
abbrev pub if_shown : Bool → List ℕ → List ℕ
if_shown true text = text
if_shown false text = []

-- The lines of one thing that happens in this air. An input of a mote has no line here: the mote's own entry shows it. A quiet
-- transcript shows the entries that a mote's quiet transcript shows, and no lines of the network's own
abbrev pub happening_lines : Bool → Air → Happening → List ℕ
happening_lines quiet air Happening.Missed = if_shown (not quiet) (missed_line (arrival air))
happening_lines quiet air (Happening.Entry m entry) =
    if_shown (is_shown entry quiet) (mote_line m entry)
    ++ if_shown (not quiet) (sent_lines m (sent_by_entry entry) (all_done (deeds_of (Happening.Entry m entry)) air))
happening_lines quiet air (Happening.Clock moment) = if_shown (not quiet) (clock_line (gone_on moment air).clock)
happening_lines quiet air _ = []

-- the text of a log: the lines of all that happens, from this air on
abbrev pub log_text : Bool → Air → List Happening → List ℕ
log_text quiet air [] = []
log_text quiet air (happening ∷ log) = happening_lines quiet air happening ++ log_text quiet (all_done (deeds_of happening) air) log
