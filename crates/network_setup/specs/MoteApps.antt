-- What the applications of a network's motes say.
use Rattle.std.specs.Prelude.{List, [], slice_get}
use Rattle.std.specs.Option.{option_map_or}
use Rattle.std.specs.Global.{Vec}
use Rattle.call_lists.specs.Applications.{application_says}
use Rattle.mote_apps.specs.Bundled.{bundled_says}
use Rattle.mote_types.specs.Applications.{Says, says_of}
use Rattle.network_setup.specs.declared.mote_app.MoteApp.{MoteApp}
use Rattle.mote_session.specs.Voices.{Voices}

abbrev pub mote_app_says : MoteApp → Says
mote_app_says (MoteApp.Bundled application) = bundled_says application
mote_app_says (MoteApp.Boxed application) = application_says application.value

-- the applications of each mote, in their order. Where there is no mote, they wait
abbrev pub voices_of : List (Vec MoteApp) → Voices
voices_of motes m = says_of mote_app_says (option_map_or (λ own. own.items) (slice_get motes m) [])
