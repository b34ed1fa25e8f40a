-- What comes from outside in moves in which no mote gets the time.
use Rattle.std.proofs.Common.{◌≡◌, ◌+◌, List, [], ◌∷◌, map, refl, ap}
use Rattle.network_run.specs.Outside.{Outside, all_outside}
use Rattle.network_steps.specs.Code.Turns.{times_of}
use Rattle.network_steps.specs.NetworkRuns.{Move}
use Rattle.network_steps.specs.declared.input.NetworkInput.{NetworkInput}
use Rattle.network_steps.specs.Works.{inputs_of}

pub outside_is : (moves : List Move) → times_of moves ≡ [] → all_outside moves ≡ map Outside.Given (inputs_of moves)
outside_is [] none = refl
outside_is (Move.Step x new ∷ moves) none = outside_is moves none
outside_is (Move.Submit call new ∷ moves) none = outside_is moves none
outside_is (Move.Tick ticks new ∷ moves) none = ap (λ (later : List Outside). Outside.Given (NetworkInput.Tick ticks) ∷ later) (outside_is moves none)
outside_is (Move.Tell m new ∷ moves) none = absurd (cc)
outside_is (Move.Hand m input new ∷ moves) none =
    ap (λ (later : List Outside). Outside.Given (NetworkInput.ForMote (m + 1) input) ∷ later) (outside_is moves none)
outside_is (Move.Miss m input new ∷ moves) none =
    ap (λ (later : List Outside). Outside.Given (NetworkInput.ForMote (m + 1) input) ∷ later) (outside_is moves none)
