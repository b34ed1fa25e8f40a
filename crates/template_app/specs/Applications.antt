-- The program's applications, by their names.
use Rattle.std.specs.Prelude.{ℕ, false, List, Option, Some, None, bytes_eq, codes, if◌then◌else◌}
use Rattle.mote_types.specs.Applications.{Says}
use Rattle.template_app.specs.Averager.{averager_says, fresh}
use Rattle.template_app.specs.Beat.{beat_says}
use Rattle.template_app.specs.declared.application.Application.{Application}

-- the application of this name, as it begins
abbrev pub named : List ℕ → Option Application
named name =
    if bytes_eq name (codes "beat") then Some (Application.Beat (record { printed = false }))
    else if bytes_eq name (codes "averager") then Some (Application.Averager fresh)
    else None

-- it says what that application says
abbrev pub application_says : Application → Says
application_says (Application.Beat beat) = beat_says beat
application_says (Application.Averager averager) = averager_says averager
