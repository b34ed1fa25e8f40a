-- What a network does from step to step, with the calls that its caller makes, and what is left to do.
use Rattle.std.specs.Prelude.{◌≡◌, ◌⊎◌, ℕ, ◌+◌, ◌*◌, ◌-◌, Bool, true, false, length, Option, None, Some}
use Rattle.medium_core.specs.Air.{links_from}
use Rattle.mote_session.specs.Voices.{Voices}
use Rattle.network_session.specs.Code.Measures.{left_at_work, most_left_at_work, to_do}
use Rattle.network_session.specs.Network.{NetworkView}
use Rattle.network_session.specs.Refusals.{step_refusal}
use Rattle.network_session.specs.declared.fault.NetworkFault.{NetworkFault}
use Rattle.network_steps.specs.Code.Calls.{Speak}
use Rattle.network_steps.specs.StepsView.{StepsView}
use Rattle.network_steps.specs.Works.{GoesNext, MovesSilently, RefusesInput, sending_of}
use Rattle.network_steps.specs.declared.came.Came.{Came}
use Rattle.network_steps.specs.declared.came.Phase.{Phase}
use Rattle.network_steps.specs.declared.came.Sending.{Sending}
use Rattle.network_steps.specs.declared.came.Waiting.{Waiting}

-- silent moves, and work goes on
pub record PassesBy (old new : StepsView) (before after : Voices) : Type 0 where
  pub way : MovesSilently old.net new.net old.waiting new.waiting
  pub calls : Speak old.net way.moves before after
  pub last : new.last ≡ old.last
  pub links : new.free_links ≡ old.free_links
  pub sending : new.sending ≡ None
  pub works : new.phase ≡ Phase.Working

-- moves up to one that is reported
pub record GoesBy (came : Came) (old new : StepsView) (before after : Voices) : Type 0 where
  pub goes : GoesNext came old new
  pub calls : Speak old.net goes.moves before after
  pub sending : new.sending ≡ sending_of came new.net

-- what is reported, where rest isn't noted
abbrev pub came_by : Phase → Came → Came
came_by Phase.Resting last = Came.Rest
came_by _ last = last

abbrev pub came_in : StepsView → Came
came_in s = came_by s.phase s.last

-- the same, if anything is
abbrev pub came_if : Bool → StepsView → Option Came
came_if false s = None
came_if true s = Some (came_in s)

-- a mote's entry, if it made one
abbrev pub entry_if : Bool → ℕ → Option Came
entry_if false m = None
entry_if true m = Some (Came.Entry m)

-- a step of which nothing is reported, or this
abbrev pub StepsBy : Option Came → StepsView → StepsView → Voices → Voices → Type 0
StepsBy None old new before after = PassesBy old new before after
StepsBy (Some came) old new before after = GoesBy came old new before after

-- silent moves up to a network that refuses its next step, or the input that is left
pub record StopsBy (cause : NetworkFault) (old : StepsView) (new : NetworkView) (before after : Voices) : Type 0 where
  pub left : Option Waiting
  pub way : MovesSilently old.net new old.waiting left
  pub calls : Speak old.net way.moves before after
  pub refuses : (step_refusal new ≡ Some cause) ⊎ RefusesInput left new cause

-- the rounds that an input that waits can take, and one to hand it over
abbrev pub rounds_of : Option Waiting → ℕ → ℕ
rounds_of None bound = 0
rounds_of (Some waiting) bound = 1 + bound

-- it falls with each step, but for a turn whose call is awaited, and the last step
abbrev pub left_to_do : StepsView → ℕ
left_to_do s = (to_do s.net + rounds_of s.waiting s.net.bound) * (1 + most_left_at_work) + left_at_work s.net

-- the links over which it is still to be reported what became of a frame
abbrev pub links_left : Option Sending → NetworkView → ℕ
links_left None net = 0
links_left (Some sending) net = length (links_from sending.from net.air) - sending.place
