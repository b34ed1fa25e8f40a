-- An application that is made of a state machine.
use Rattle.std.specs.Prelude.{[], ◌∷◌}
use Rattle.mote_types.specs.declared.call.Call.{Call}
use Rattle.mote_types.specs.declared.event.Stimulus.{Stimulus}
use Rattle.mote_types.specs.Applications.{Says}

-- what an application says that is a machine: its call in a state on a stimulus, and its next state
abbrev pub fold_says : {A : Type 0} → (A → Stimulus → Call) → (A → Stimulus → A) → A → Says
fold_says answer next state [] = Call.Wait
fold_says answer next state (stimulus ∷ []) = answer state stimulus
fold_says answer next state (stimulus ∷ (following ∷ later)) =
    fold_says answer next (next state stimulus) (following ∷ later)
