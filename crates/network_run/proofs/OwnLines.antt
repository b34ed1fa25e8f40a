-- What is reported that is no entry.
use Rattle.std.proofs.Common.{◌≡◌, false, refl, None}
use Rattle.network_session.specs.Network.{NetworkView}
use Rattle.network_steps.specs.Code.Turns.{is_of_mote}
use Rattle.network_steps.specs.Works.{sending_of}
use Rattle.network_steps.specs.declared.came.Came.{Came}

-- nothing is sent in it
pub other_unsent : (came : Came) (net : NetworkView) → is_of_mote came ≡ false → sending_of came net ≡ None
other_unsent (Came.Turn m) net other = absurd (cc)
other_unsent (Came.Entry m) net other = absurd (cc)
other_unsent Came.Clock net other = refl
other_unsent (Came.Lost from to) net other = refl
other_unsent (Came.Full from to) net other = refl
other_unsent (Came.Missed from to) net other = refl
other_unsent (Came.Unheard m) net other = refl
other_unsent Came.Rest net other = refl
other_unsent Came.Exhausted net other = refl
