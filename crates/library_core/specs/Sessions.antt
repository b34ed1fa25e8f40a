-- Which session a mote has.
use Rattle.std.specs.Prelude.{Option, option_map}
use Rattle.mote_session.specs.SessionView.{SessionView}
use Rattle.library_core.specs.declared.mote.Mote.{Mote}

-- none, where it is closed
abbrev pub session_in : Mote → Option SessionView
session_in mote = option_map (λ open_mote. open_mote.session) mote.open_mote
