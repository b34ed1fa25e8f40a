-- What contracts see of a network that reports what happens.
use Rattle.std.specs.Prelude.{ℕ, zero, suc, List, [], ◌∷◌, length, Option, None}
use Rattle.medium_core.specs.Air.{still_air}
use Rattle.medium_core.specs.declared.link.Link.{Link}
use Rattle.mote_session.specs.SessionView.{SessionView}
use Rattle.network_session.specs.Network.{NetworkView}
use Rattle.network_steps.specs.declared.came.Came.{Came}
use Rattle.network_steps.specs.declared.came.Phase.{Phase}
use Rattle.network_steps.specs.declared.came.Sending.{Sending}
use Rattle.network_steps.specs.declared.came.Waiting.{Waiting}

pub record StepsView : Type 0 where
  pub net : NetworkView
  -- what happened last that has a line
  pub last : Came
  -- the frame that was just sent, whose losses are still to be reported
  pub sending : Option Sending
  -- the input from outside that waits
  pub waiting : Option Waiting
  pub phase : Phase
  -- how many more links can be added
  pub free_links : ℕ

-- for each of this many motes an empty list
abbrev pub unlinked : ℕ → List (List Link)
unlinked zero = []
unlinked (suc n) = [] ∷ unlinked n

-- before the motes are started
abbrev pub opened_net : List SessionView → ℕ → ℕ → NetworkView
opened_net motes room bound =
    record {
      motes = motes;
      air = still_air room (unlinked (length motes));
      active = None;
      started = 0;
      target = 0;
      bound = bound;
      rounds = bound;
    }

abbrev pub opened_steps : List SessionView → ℕ → ℕ → ℕ → StepsView
opened_steps motes room links bound =
    record { net = opened_net motes room bound; last = Came.Rest; sending = None; waiting = None; phase = Phase.Fresh; free_links = links }

-- over a network that was made, to which no links can be added
abbrev pub steps_over : NetworkView → StepsView
steps_over net =
    record { net = net; last = Came.Rest; sending = None; waiting = None; phase = Phase.Working; free_links = 0 }
