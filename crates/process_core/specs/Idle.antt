-- Whether any work is left.
use Rattle.std.specs.Prelude.{Bool, true, false, not, ◌&&◌, List, [], ◌∷◌}
use Rattle.process_core.specs.Scheduler.{Scheduler, wants_round}

abbrev pub is_empty : {A : Type 0} → List A → Bool
is_empty [] = true
is_empty (x ∷ xs) = false

abbrev pub is_idle : {X : Type 0} → Scheduler X → Bool
is_idle s = is_empty s.agenda && not (wants_round s)
