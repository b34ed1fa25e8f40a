-- What moves leave open, and which motes get the time in them.
use Rattle.std.specs.Prelude.{Bool, true, false, List, [], ◌∷◌, Option, None, Some, ℕ, filter_map}
use Rattle.mote_session.specs.declared.session.Next.{Next}
use Rattle.network_session.specs.declared.outcome.Outcome.{Outcome}
use Rattle.network_steps.specs.NetworkRuns.{Move}
use Rattle.network_steps.specs.declared.came.Came.{Came}

-- the mote that gets the time in a move before an input from outside
abbrev pub time_of : Move → Option ℕ
time_of (Move.Tell m new) = Some m
time_of _ = None

-- the motes that get it in all of these moves
abbrev pub times_of : List Move → List ℕ
times_of moves = filter_map time_of moves

abbrev pub is_turn_step : Outcome → Bool
is_turn_step (Outcome.Worked m Next.Turn) = true
is_turn_step _ = false

-- a turn, whose call is awaited
abbrev pub is_turn : Move → Bool
is_turn (Move.Step outcome new) = is_turn_step outcome
is_turn _ = false

-- whether these end with a turn, so that its call wasn't made
abbrev pub ends_open : List Move → Bool
ends_open [] = false
ends_open (move ∷ []) = is_turn move
ends_open (move ∷ next ∷ moves) = ends_open (next ∷ moves)

-- a turn is reported, whose call is awaited
abbrev pub is_open : Came → Bool
is_open (Came.Turn m) = true
is_open _ = false

abbrev pub is_open_if : Option Came → Bool
is_open_if None = false
is_open_if (Some came) = is_open came

-- a mote's entry, or its turn, whose call is awaited
abbrev pub is_of_mote : Came → Bool
is_of_mote (Came.Turn m) = true
is_of_mote (Came.Entry m) = true
is_of_mote _ = false

abbrev pub is_of_mote_if : Option Came → Bool
is_of_mote_if None = false
is_of_mote_if (Some came) = is_of_mote came

-- nothing follows without an input
abbrev pub is_end : Came → Bool
is_end Came.Rest = true
is_end Came.Exhausted = true
is_end _ = false

abbrev pub is_end_if : Option Came → Bool
is_end_if None = false
is_end_if (Some came) = is_end came
