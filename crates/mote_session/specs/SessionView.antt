-- What contracts see of a session.
use Rattle.std.specs.Prelude.{ℕ, Bool, ◌&&◌, Option, is_none}
use Rattle.mote_types.specs.declared.entry.Entry.{Entry}
use Rattle.mote_types.specs.declared.event.Origin.{Origin}
use Rattle.mote_types.specs.declared.event.Pid.{Pid}
use Rattle.mote_types.specs.declared.event.Stimulus.{Stimulus}
use Rattle.kernel_core.specs.Machine.{Machine}
use Rattle.kernel_core.specs.Run.{is_at_rest, is_still}

-- an application received a stimulus, and its call is awaited
pub record AwaitedCall : Type 0 where
  pub process : Pid
  pub origin : Origin
  pub stimulus : Stimulus

pub record SessionView : Type 0 where
  pub machine : Machine
  -- the number of inputs that were fed
  pub inputs : ℕ
  -- the most entries that can still be made before there is rest
  pub entries_left : ℕ
  -- the turn that awaits its call
  pub turn : Option AwaitedCall
  -- the entry that was made last. None, too, while a turn awaits its call
  pub last : Option Entry

-- no call is awaited, and the mote rests
abbrev pub rests : SessionView → Bool
rests session = is_none session.turn && is_at_rest session.machine

-- no call is awaited, and nothing more happens without an input: the mote rests, or was halted
abbrev pub is_settled : SessionView → Bool
is_settled session = is_none session.turn && is_still session.machine
