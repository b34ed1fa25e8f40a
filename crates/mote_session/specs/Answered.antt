-- Applications whose calls are those of some entries.
use Rattle.std.specs.Prelude.{◌≡◌, ℕ, ◌-◌, zero, suc, List, [], ◌∷◌, ◌++◌, length, filter_map, Option, Some, None, if◌then◌else◌, ◌==◌}
use Rattle.mote_types.specs.Kinds.{ProcessNumber}
use Rattle.mote_types.specs.declared.call.Call.{Call}
use Rattle.mote_types.specs.declared.entry.Entry.{Entry}
use Rattle.mote_types.specs.declared.event.Origin.{Origin}
use Rattle.mote_types.specs.declared.event.Pid.{Pid}
use Rattle.mote_types.specs.declared.event.Stimulus.{Stimulus}
use Rattle.mote_types.specs.Applications.{Applications}
use Rattle.kernel_core.specs.Run.{heard}

-- each turn's call is what its application says to all stimuli up to then
abbrev pub AnswersAs : Applications → List Entry → Type 0
AnswersAs says entries =
    (before later : List Entry) (pid : Pid) (origin : Origin) (stimulus : Stimulus) (call : Call) →
    entries ≡ before ++ Entry.Turn pid origin stimulus call ∷ later → says pid.0 (heard pid.0 before ++ stimulus ∷ []) ≡ call

-- the call of an entry that is a turn of p
abbrev pub call_of : ProcessNumber → Entry → Option Call
call_of p (Entry.Turn pid origin stimulus call) = if pid.0 == p then Some call else None
call_of p _ = None

-- the calls of p
abbrev pub calls_of : ProcessNumber → List Entry → List Call
calls_of p entries = filter_map (call_of p) entries

-- the call after n others; Wait, where there is none
abbrev pub call_at : ℕ → List Call → Call
call_at n [] = Call.Wait
call_at zero (call ∷ calls) = call
call_at (suc n) (call ∷ calls) = call_at n calls

-- the applications that go through their calls in these entries, whatever they receive, and then wait
abbrev pub replayed : List Entry → Applications
replayed entries p stimuli = call_at (length stimuli - 1) (calls_of p entries)
