-- What an application says that goes through a list of calls.
use Rattle.std.specs.Prelude.{List, [], ◌∷◌}
use Rattle.mote_types.specs.Applications.{Says}
use Rattle.mote_types.specs.Code.StateMachines.{fold_says}
use Rattle.mote_types.specs.declared.call.Call.{Call}
use Rattle.mote_types.specs.declared.event.Stimulus.{Stimulus}

-- the first of the calls that are left, whatever it was told
abbrev pub steps_answer : List Call → Stimulus → Call
steps_answer [] stimulus = Call.Wait
steps_answer (call ∷ calls) stimulus = call

-- the calls that are left then
abbrev pub steps_next : List Call → Stimulus → List Call
steps_next [] stimulus = []
steps_next (call ∷ calls) stimulus = calls

abbrev pub steps_says : List Call → Says
steps_says = fold_says steps_answer steps_next
