-- The calls of moves.
use Rattle.std.specs.Prelude.{◌≡◌, ℕ, List, [], ◌∷◌, slice_get, Some}
use Rattle.mote_session.specs.SessionView.{SessionView}
use Rattle.mote_session.specs.Voices.{SpokeLast, Voices}
use Rattle.network_session.specs.Network.{NetworkView}
use Rattle.network_steps.specs.NetworkRuns.{Move, after_move}

-- the last entry of the mote at work is a turn, and its call is the application's
pub record IsActiveCall (before after : NetworkView) (old new : Voices) : Type 0 where
  pub m : ℕ
  pub active : before.active ≡ Some m
  pub mote : SessionView
  pub there : slice_get after.motes m ≡ Some mote
  pub spoke : SpokeLast m mote.last old new

-- what the applications say before and after a move
abbrev pub Speaks : NetworkView → Move → Voices → Voices → Type 0
Speaks net (Move.Submit call after) old new = IsActiveCall net after old new
Speaks net _ old new = new ≡ old

-- before and after all of them
abbrev pub Speak : NetworkView → List Move → Voices → Voices → Type 0
Speak net [] old new = new ≡ old
Speak net (move ∷ moves) old new = (mid : Voices) × Speaks net move old mid × Speak (after_move move) moves mid new
