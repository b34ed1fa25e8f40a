-- What the applications of a caller say before and after a step of a session.
use Rattle.std.specs.Prelude.{◌≡◌, ℕ}
use Rattle.mote_session.specs.SessionView.{SessionView}
use Rattle.mote_session.specs.Voices.{SpokeLast, Voices}
use Rattle.mote_session.specs.declared.session.Next.{Next}

abbrev pub SpeaksBy : Next → ℕ → SessionView → Voices → Voices → Type 0
SpeaksBy Next.Turn m new before after = SpokeLast m new.last before after
SpeaksBy Next.Entry m new before after = after ≡ before
SpeaksBy Next.Rest m new before after = after ≡ before
SpeaksBy Next.Halted m new before after = after ≡ before
