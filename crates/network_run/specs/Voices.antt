-- The calls of a network's motes are those of their applications.
use Rattle.std.specs.Prelude.{ℕ, List, filter_map}
use Rattle.mote_session.specs.Answered.{AnswersAs}
use Rattle.mote_session.specs.Voices.{Voices}
use Rattle.network_session.specs.Happenings.{Happening, entry_of}

-- the calls of each mote's entries are those that its applications make
abbrev pub MakeTheCalls : Voices → List Happening → Type 0
MakeTheCalls voices log = (m : ℕ) → AnswersAs (voices m) (filter_map (entry_of m) log)
