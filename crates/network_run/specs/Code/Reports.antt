-- What is reported, and what follows.
use Rattle.std.specs.Prelude.{Bool, true, false, Option, None, Some}
use Rattle.network_steps.specs.declared.came.Came.{Came}

-- whether the network rests after that, or has used up its rounds
abbrev pub rests_after : Came → Option Bool
rests_after Came.Rest = Some true
rests_after Came.Exhausted = Some false
rests_after _ = None
