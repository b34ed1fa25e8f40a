-- What the applications of a run say, and which have which name.
use Rattle.std.specs.Prelude.{◌≡◌, ℕ, List, codes, Some}
use Rattle.mote_types.specs.Applications.{Says}
use Rattle.mote_types.specs.declared.call.Call.{Call}
use Rattle.mote_apps.specs.Bundled.{bundled_says, named}
use Rattle.mote_apps.specs.Steps.{steps_says}
use Rattle.call_lists.specs.Calls.{IsListOf}
use Rattle.call_lists.specs.declared.applications.Application.{Application}

abbrev pub application_says : Application → Says
application_says (Application.Named named) = bundled_says named
application_says (Application.Listed calls) = steps_says calls
application_says Application.ClockWatcher = λ stimuli. Call.Clock

-- this is the application of this name, as it begins
abbrev pub IsNamed : List ℕ → Application → Type 0
IsNamed name (Application.Named bundled) = named name ≡ Some bundled
IsNamed name (Application.Listed calls) = ⊥
IsNamed name Application.ClockWatcher = name ≡ codes "clock-watcher"

-- it makes the calls of this text in order
abbrev pub IsListed : List ℕ → Application → Type 0
IsListed text (Application.Listed calls) = IsListOf text calls
IsListed text application = ⊥
