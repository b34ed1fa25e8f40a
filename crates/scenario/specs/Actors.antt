-- What the applications of a run say.
use Rattle.call_lists.specs.Applications.{application_says}
use Rattle.call_lists.specs.Rows.{reaction_says}
use Rattle.mote_types.specs.Applications.{Says}
use Rattle.scenario.specs.declared.actor.Actor.{Actor}

abbrev pub actor_says : Actor → Says
actor_says (Actor.ByName application) = application_says application
actor_says (Actor.ByRows reactions) = reaction_says reactions
