-- Worked examples: refusals, calls, what the steps of a session don't do, histories and promises.
use Rattle.std.proofs.Common.{◌≡◌, ◌≤◌, ◌+◌, ◌-◌, ◌^◌, ℕ, true, false, List, ◌∷◌, refl, arith, append-nil, map, Some, None, []}
use Rattle.arrayvec.specs.ArrayVec.{ArrayVec}
use Rattle.mote_types.specs.Applications.{Applications}
use Rattle.mote_types.specs.declared.call.Call.{Call}
use Rattle.mote_types.specs.declared.entry.Entry.{Entry}
use Rattle.mote_types.specs.declared.entry.Input.{Input}
use Rattle.mote_types.specs.declared.entry.Note.{Note}
use Rattle.mote_types.specs.declared.event.Origin.{Origin}
use Rattle.mote_types.specs.declared.event.Stimulus.{Stimulus}
use Rattle.mote_types.specs.declared.refusal.Refusal.{Refusal}
use Rattle.mote_types.specs.declared.reply.Reply.{Reply}
use Rattle.kernel_core.specs.declared.config.Config.{Config}
use Rattle.kernel_core.specs.Code.OpenTurns.{AwaitsCall}
use Rattle.kernel_core.specs.Machine.{booted}
use Rattle.kernel_core.specs.Run.{Choices, Runs, at_start, heard}
use Rattle.kernel_core.specs.Laws.RunLaws.{BlocksAreOwn, EventsArriveInOrder, ProcessesAreIsolated, TimersAreKept}
use Rattle.mote_session.specs.Answered.{AnswersAs, call_at, calls_of, replayed}
use Rattle.mote_session.specs.History.{History, at_boot, last_entry, with_call, with_said}
use Rattle.mote_session.specs.Refusals.{input_refusal, line_refusal}
use Rattle.mote_session.specs.Sent.{sent_in}
use Rattle.mote_session.specs.SessionRuns.{IsHistoryOf, RunSoFar, SessionPromise}
use Rattle.mote_session.specs.SessionView.{AwaitedCall, SessionView, is_settled, rests}
use Rattle.mote_session.specs.Steps.{Advances, HasSameInputs, IsSubmitted, TakesLine, with_made}
use Rattle.mote_session.specs.declared.refusal.SessionRefusal.{SessionRefusal}
use Rattle.mote_session.specs.declared.session.Next.{Next}

abbrev sized : ℕ → ℕ → Config
sized mmem applications = record { mmem = mmem; heap = 20; apps = applications; quota = None; header = 16 }

abbrev at_first : ℕ → SessionView
at_first applications = record { machine = booted (sized 4 applications); inputs = 0; entries_left = 0; turn = None; last = None }

abbrev callback : AwaitedCall
callback = record { process = record { 0 = 4 }; origin = Origin.Callback; stimulus = Stimulus.Callback 1 }

abbrev asked : SessionView
asked = record (at_first 0) { turn = Some callback }

abbrev halted : SessionView
halted = record (at_first 1) { machine = record (at_first 1).machine { is_halted = true } }

-- ---- refusals

-- without applications there is rest at boot, otherwise INIT is pending; after Halt nothing more happens, but it is no rest
resting : (map rests (at_first 0 ∷ at_first 1 ∷ asked ∷ halted ∷ []) ≡ true ∷ false ∷ false ∷ false ∷ []) × (is_settled halted ≡ true)
resting = (refl, refl)

-- the first reason counts
inputs_refused : (map (input_refusal (Input.Tick 5)) (at_first 0 ∷ at_first 1 ∷ asked ∷ halted ∷ [])
    ≡ None ∷ Some SessionRefusal.NotAtRest ∷ Some SessionRefusal.AwaitsCall ∷ Some SessionRefusal.Halted ∷ [])
    × (input_refusal (Input.Serial (record { items = [] })) (at_first 0) ≡ Some SessionRefusal.NoInput)
    × (map (input_refusal (Input.Frame (record { items = [] }))) (at_first 0 ∷ asked ∷ [])
    ≡ Some SessionRefusal.NoInput ∷ Some SessionRefusal.AwaitsCall ∷ [])
inputs_refused = (refl, refl, refl)

-- the clock may reach 2^62 at most
abbrev late : SessionView
late = record (at_first 0) { machine = record (at_first 0).machine { clock = 2 ^ 62 - 5 } }

limits : (input_refusal (Input.Tick 5) late ≡ None) × (input_refusal (Input.Tick 6) late ≡ Some SessionRefusal.TooManyInputs)
    × (input_refusal (Input.Tick 0) (record (at_first 0) { inputs = 2 ^ 40 - 1 }) ≡ None)
    × (input_refusal (Input.Tick 0) (record (at_first 0) { inputs = 2 ^ 40 }) ≡ Some SessionRefusal.TooManyInputs)
limits = (refl, refl, refl, refl)

-- a malformed line, a comment, and the order of the two refusals
lines_refused : (line_refusal None (at_first 0) ≡ Some SessionRefusal.BadLine)
    × (map (line_refusal (Some None)) (at_first 0 ∷ at_first 1 ∷ []) ≡ None ∷ Some SessionRefusal.NotAtRest ∷ [])
lines_refused = (refl, refl)

-- ---- calls

abbrev turn : ℕ → Call → Entry
turn p call = Entry.Turn (record { 0 = p }) Origin.Answer (Stimulus.Answer Reply.Done) call

abbrev later : List Entry
later = turn 5 Call.Exit ∷ turn 4 Call.AllocEvent ∷ []

abbrev three : List Entry
three = turn 4 Call.Clock ∷ later

of_three : (calls_of 4 three ≡ Call.Clock ∷ Call.AllocEvent ∷ [])
    × (replayed three 4 (Stimulus.Callback 0 ∷ Stimulus.Callback 0 ∷ []) ≡ Call.AllocEvent) × (call_at 2 (calls_of 4 three) ≡ Call.Wait)
    × (last_entry three ≡ Some (turn 4 Call.AllocEvent))
of_three = (refl, refl, refl, refl)

waits_instead : AnswersAs (λ p stimuli. Call.Wait) three → ⊥
waits_instead answers =
    cc (answers [] later (record { 0 = 4 }) Origin.Answer (Stimulus.Answer Reply.Done) Call.Clock refl)

-- ---- histories

abbrev boot : History
boot = at_boot (sized 4 1)

-- a comment is no input; coming to rest doesn't repeat the last entry
histories : (with_said (Some None) boot ≡ boot)
    × (with_said (Some (Some (Input.Tick 5))) boot ≡ record boot { inputs = Input.Tick 5 ∷ [] })
    × (with_call (Some callback) Call.Exit boot
    ≡ record boot { entries = Entry.Turn (record { 0 = 4 }) Origin.Callback (Stimulus.Callback 1) Call.Exit ∷ [] })
    × (with_made Next.Entry (Some Entry.Halt) boot ≡ record boot { entries = Entry.Halt ∷ [] })
    × (with_made Next.Rest (Some Entry.Halt) boot ≡ boot)
histories = grind arith

-- ---- steps

module _ (old new : SessionView) where
  clock_stays : HasSameInputs old new → new.machine.clock ≡ old.machine.clock
  clock_stays same = same.1

  -- a turn is an application's, is no entry yet, and leaves two entries fewer
  of_a_turn : (is : Advances Next.Turn old new)
      → (is.turn.process.0 ≡ 3 → ⊥) × (old.entries_left ≡ 1 → ⊥) × (new.last ≡ None)
      × ((choices : Choices) → AwaitsCall choices old.machine is.turn.process is.turn.origin is.turn.stimulus new.machine)
  of_a_turn is = grind arith

  -- an entry that is no turn gives no stimulus and leaves one entry fewer; none follows Halt
  of_an_entry : (is : Advances Next.Entry old new)
      → ((p : ℕ) → heard p (is.entry ∷ []) ≡ []) × (old.entries_left ≡ 0 → ⊥)
      × (is.entry ≡ Entry.Halt → old.machine.is_halted ≡ false → new.machine.is_halted ≡ true)
  of_an_entry is = grind arith

  -- rest is no halt
  halted_before : Advances Next.Halted old new → old.machine.is_halted ≡ true
  halted_before is = is.halted

  rest_keeps_the_last_line : Advances Next.Rest old new → new.last ≡ old.last
  rest_keeps_the_last_line is = is.last

  one_note : (call : Call) → IsSubmitted call old new → new.entries_left ≤ old.entries_left + 1
  one_note call is = is.left

  -- a malformed line is not taken, and a comment does nothing
  no_form : TakesLine None old new → ⊥
  no_form takes = takes

  nothing_handed_in : TakesLine (Some None) old new → new.inputs ≡ old.inputs
  nothing_handed_in takes = rw takes refl

  one_handed_in : TakesLine (Some (Some (Input.Tick 5))) old new → new.inputs ≡ old.inputs → ⊥
  one_handed_in takes same = grind arith

no_call_awaited : (call : Call) (new : SessionView) → IsSubmitted call (at_first 1) new → ⊥
no_call_awaited call new is = cc is.awaited

-- an open turn is no entry
still_open : Advances Next.Entry (at_first 0) asked → ⊥
still_open is = cc is.closed

still_asked : Advances Next.Rest (at_first 0) asked → ⊥
still_asked is = cc is.closed

-- ---- histories of a session, and promises

-- a mote that doesn't boot has no history
no_mote : (session : SessionView) → IsHistoryOf (at_boot (sized 6 1)) session → ⊥
no_mote session is = grind arith

-- what wasn't fed, submitted or made is in no history
one_input_more : IsHistoryOf boot (record (at_first 1) { inputs = 1 }) → ⊥
one_input_more is = grind arith

one_entry_more : IsHistoryOf boot (record (at_first 1) { last = Some Entry.Halt }) → ⊥
one_entry_more is = cc (is.last refl)

module _ (history : History) (session : SessionView) (promise : SessionPromise history session) where
  calls_are_replayed : AnswersAs (replayed history.entries) history.entries
  calls_are_replayed = promise.answered

  module _ (says : Applications) (answers : AnswersAs says history.entries) where
    abbrev run : RunSoFar says history session
    run = promise.run says answers

    is_a_run : Runs says (at_start history.config) history.inputs run.last
    is_a_run = run.runs

    all_is_made : is_settled session ≡ true → (run.last.entries ≡ history.entries) × (run.last.machine ≡ session.machine)
    all_is_made settled = grind (arith, append-nil)

    laws_are_kept : BlocksAreOwn run.last.entries × EventsArriveInOrder history.config.apps run.last.entries
        × TimersAreKept history.config.apps run.last.entries
        × ProcessesAreIsolated history.config.quota history.config.apps run.last.entries
    laws_are_kept = (run.laws.memory, run.laws.events, run.laws.timers, run.laws.isolation)

-- only the note of a sent frame reports it
sent_is_reported : (bytes : ArrayVec ℕ) → sent_in (Some (Entry.Note (Note.Sent bytes))) ≡ Some bytes
sent_is_reported bytes = refl

nothing_sent : map sent_in
    (None ∷ Some Entry.Halt ∷ Some (Entry.Input (Input.Tick 1)) ∷ Some (Entry.Note (Note.Lost Refusal.Full)) ∷ [])
    ≡ None ∷ None ∷ None ∷ None ∷ []
nothing_sent = refl
