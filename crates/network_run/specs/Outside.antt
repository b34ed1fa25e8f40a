-- What comes to a network from outside: inputs, and the time before them.
use Rattle.std.specs.Prelude.{◌≡◌, ⊤, ℕ, ◌+◌, ◌-◌, List, [], ◌∷◌, Option, None, Some, filter_map, if◌then◌else◌, slice_get}
use Rattle.network_session.specs.Network.{NetworkView}
use Rattle.network_session.specs.Refusals.{catch_up_refusal, feed_refusal, pass_refusal}
use Rattle.network_session.specs.declared.fault.NetworkFault.{NetworkFault}
use Rattle.network_steps.specs.NetworkRuns.{Move, is_halted_in}
use Rattle.network_steps.specs.declared.input.NetworkInput.{NetworkInput}

pub data Outside : Type 0 where
  -- mote m gets the time
  Time : (m : ℕ) → Outside
  Given : (input : NetworkInput) → Outside

-- what comes in a move, if that isn't the network's own
abbrev pub outside_of : Move → Option Outside
outside_of (Move.Tick ticks new) = Some (Outside.Given (NetworkInput.Tick ticks))
outside_of (Move.Tell m new) = Some (Outside.Time m)
outside_of (Move.Hand m input new) = Some (Outside.Given (NetworkInput.ForMote (m + 1) input))
outside_of (Move.Miss m input new) = Some (Outside.Given (NetworkInput.ForMote (m + 1) input))
outside_of _ = None

-- what comes in all of these moves
abbrev pub all_outside : List Move → List Outside
all_outside moves = filter_map outside_of moves

abbrev pub given_of : Outside → Option NetworkInput
given_of (Outside.Time m) = None
given_of (Outside.Given input) = Some input

-- the inputs among what comes
abbrev pub givens : List Outside → List NetworkInput
givens outside = filter_map given_of outside

-- a mote gets the time only right before an input of its own
abbrev pub AreInTurn : List Outside → Type 0
AreInTurn [] = ⊤
AreInTurn (Outside.Given input ∷ later) = AreInTurn later
AreInTurn (Outside.Time m ∷ Outside.Given (NetworkInput.ForMote number input) ∷ later) = (number ≡ m + 1) × AreInTurn later
AreInTurn _ = ⊥

-- why this is refused. A halted mote misses it
abbrev pub refusal_of : Outside → NetworkView → Option NetworkFault
refusal_of (Outside.Time m) net = if is_halted_in (slice_get net.motes m) then None else catch_up_refusal m net
refusal_of (Outside.Given (NetworkInput.Tick ticks)) net = pass_refusal ticks net
refusal_of (Outside.Given (NetworkInput.ForMote number input)) net =
    if is_halted_in (slice_get net.motes (number - 1)) then None else feed_refusal (number - 1) input net

-- why the first of these is refused
abbrev pub next_refusal : List Outside → NetworkView → Option NetworkFault
next_refusal [] net = None
next_refusal (next ∷ later) net = refusal_of next net
