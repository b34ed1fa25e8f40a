-- What the calls say of which a mote is asked step by step. A mote in hand is closed, or has a session.
use Rattle.std.specs.Prelude.{◌≡◌, ◌+◌, ℕ, true, List, [], ◌∷◌, ◌++◌, length, Option, Some, None, is_some, is_none, IsSomeAnd, if◌then◌else◌, nat_lt}
use Rattle.arrayvec.specs.ArrayVec.{ArrayVec}
use Rattle.mote_types.specs.declared.call.Call.{Call}
use Rattle.mote_types.specs.declared.entry.Entry.{Entry}
use Rattle.mote_types.specs.declared.entry.Input.{Input}
use Rattle.mote_text.specs.EntryText.{entry_line}
use Rattle.mote_text.specs.Script.{read_line}
use Rattle.kernel_core.specs.declared.config.Config.{Config}
use Rattle.timer_core.specs.Deadlines.{next_deadline}
use Rattle.kernel_core.specs.Machine.{booted, is_bootable}
use Rattle.mote_run.specs.Code.Runs.{config_of}
use Rattle.mote_session.specs.History.{History, at_boot, with_call, with_input, with_said}
use Rattle.mote_session.specs.Refusals.{input_refusal, line_refusal}
use Rattle.mote_session.specs.Sent.{sent_in}
use Rattle.mote_session.specs.SessionRuns.{IsHistoryOf, SessionPromise}
use Rattle.mote_session.specs.SessionView.{AwaitedCall, SessionView}
use Rattle.mote_session.specs.Steps.{Advances, HasSameInputs, IsSubmitted, IsFed, TakesLine, with_made}
use Rattle.mote_session.specs.declared.refusal.SessionRefusal.{SessionRefusal}
use Rattle.mote_session.specs.declared.session.Next.{Next}
use Rattle.library_core.specs.Calls.{call_said}
use Rattle.library_core.specs.Turns.{turn_told}
use Rattle.library_core.specs.declared.call.PlainCall.{PlainCall}
use Rattle.library_core.specs.declared.turn.PlainTurn.{PlainTurn}
use Rattle.library_core.specs.Configurations.{sizes_of}
use Rattle.library_core.specs.declared.configuration.Configuration.{Configuration}

-- statuses

-- a session, if the mote is open
abbrev pub Held : Type 0
Held = Option SessionView

-- the status of a refusal
abbrev pub refusal_status : SessionRefusal → ℕ
refusal_status SessionRefusal.BadLine = 2
refusal_status SessionRefusal.Halted = 3
refusal_status SessionRefusal.AwaitsCall = 24
refusal_status SessionRefusal.NoTurn = 25
refusal_status SessionRefusal.NotAtRest = 26
refusal_status SessionRefusal.NoInput = 28
refusal_status SessionRefusal.TooManyInputs = 29
refusal_status SessionRefusal.NoLine = 30

-- 0 where nothing is refused
abbrev pub status_if : Option SessionRefusal → ℕ
status_if None = 0
status_if (Some refusal) = refusal_status refusal

-- 22 where the mote is closed
abbrev pub status_in : Held → (SessionView → ℕ) → ℕ
status_in None status = 22
status_in (Some session) status = status session

abbrev pub feed_status : List ℕ → Held → ℕ
feed_status line held = status_in held (λ session. status_if (line_refusal (read_line line) session))

abbrev pub input_status : Input → Held → ℕ
input_status input held = status_in held (λ session. status_if (input_refusal input session))

-- 24 where a turn awaits its call
abbrev pub next_status_of : SessionView → ℕ
next_status_of session = if is_some session.turn then 24 else 0

abbrev pub next_status : Held → ℕ
next_status held = status_in held next_status_of

-- 25 where no turn awaits a call, 27 where there is no such call
abbrev pub submit_status_of : PlainCall → SessionView → ℕ
submit_status_of call session = if is_none session.turn then 25 else if is_none (call_said call) then 27 else 0

abbrev pub submit_status : PlainCall → Held → ℕ
submit_status call held = status_in held (submit_status_of call)

-- 30 where there is no entry, 20 where its line is longer than the room
abbrev pub line_status_of : ℕ → Option Entry → ℕ
line_status_of room None = 30
line_status_of room (Some entry) = if nat_lt (room + 1) (length (entry_line entry)) then 20 else 0

abbrev pub line_status : ℕ → Held → ℕ
line_status room held = status_in held (λ session. line_status_of room session.last)

-- 35 where the last entry reports no frame as sent, 20 where it has more bytes than the room
abbrev pub sent_status_of : ℕ → Option (ArrayVec ℕ) → ℕ
sent_status_of room None = 35
sent_status_of room (Some frame) = if nat_lt room (length frame.items) then 20 else 0

abbrev pub sent_status : ℕ → Held → ℕ
sent_status room held = status_in held (λ session. sent_status_of room (sent_in session.last))

-- 33 where no timer is set
abbrev pub due_status_of : Option ℕ → ℕ
due_status_of None = 33
due_status_of (Some moment) = 0

abbrev pub due_status : Held → ℕ
due_status held = status_in held (λ session. due_status_of (next_deadline session.machine.timers))

abbrev pub open_status : Held → ℕ
open_status held = status_in held (λ session. 0)

-- what is done where the status is 0

-- it was open and is, and its session went from old to new so
abbrev pub Goes : (SessionView → SessionView → Type 0) → Held → Held → Type 0
Goes R old new = IsSomeAnd old (λ before. IsSomeAnd new (λ after. R before after))

-- the history of a session goes on so, and keeps the promise
abbrev pub GoesOn : (History → History) → SessionView → SessionView → Type 0
GoesOn more old new = (history : History) → IsHistoryOf history old → IsHistoryOf (more history) new × SessionPromise (more history) new

abbrev pub config_in : Configuration → ℕ → Config
config_in configuration applications = config_of (sizes_of configuration) applications

-- a session at boot
pub record IsOpened (config : Config) (new : SessionView) : Type 0 where
  pub bootable : is_bootable config ≡ true
  pub machine : new.machine ≡ booted config
  pub turn : new.turn ≡ None
  pub last : new.last ≡ None
  pub history : IsHistoryOf (at_boot config) new

abbrev pub step_number : Next → ℕ
step_number Next.Turn = 0
step_number Next.Entry = 1
step_number Next.Rest = 2
step_number Next.Halted = 3

-- the turn that awaits its call is reported; if none does, nothing is
abbrev pub TellsTurn : Option AwaitedCall → PlainTurn → PlainTurn → Type 0
TellsTurn None before after = after ≡ before
TellsTurn (Some turn) before after = after ≡ turn_told turn.process.0 turn.origin turn.stimulus before.bytes

pub record GoesNext (step : ℕ) (before after : PlainTurn) (old new : SessionView) : Type 0 where
  pub next : Next
  pub is_step : step ≡ step_number next
  pub advances : Advances next old new
  pub inputs : HasSameInputs old new
  pub turn : TellsTurn new.turn before after
  pub history : GoesOn (with_made next new.last) old new

pub record TakesCall (plain : PlainCall) (old new : SessionView) : Type 0 where
  pub call : Call
  pub said : call_said plain ≡ Some call
  pub submitted : IsSubmitted call old new
  pub inputs : HasSameInputs old new
  pub history : GoesOn (with_call old.turn call) old new

pub record TakesScriptLine (line : List ℕ) (old new : SessionView) : Type 0 where
  pub takes : TakesLine (read_line line) old new
  pub history : (history : History) → IsHistoryOf history old → IsHistoryOf (with_said (read_line line) history) new

pub record TakesInput (input : Input) (old new : SessionView) : Type 0 where
  pub fed : IsFed input old new
  pub history : (history : History) → IsHistoryOf history old → IsHistoryOf (with_input input history) new

-- these bytes are the frame that the last entry reports as sent
abbrev pub HasSent : List ℕ → SessionView → Type 0
HasSent bytes session = IsSomeAnd (sent_in session.last) (λ frame. frame.items ≡ bytes)

-- these bytes and a line end are the line of the last entry
abbrev pub IsLastLine : List ℕ → SessionView → Type 0
IsLastLine bytes session = IsSomeAnd session.last (λ entry. entry_line entry ≡ bytes ++ 10 ∷ [])
