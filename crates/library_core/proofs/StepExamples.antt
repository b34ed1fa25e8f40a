-- Examples: what stepping calls on a mote don't do.
use Rattle.std.proofs.Common.{◌≡◌, ◌∙◌, ◌+◌, ℕ, true, List, ◌∷◌, codes, refl, sym, arith, map, Some, None, []}
use Rattle.mote_types.specs.declared.entry.Input.{Input}
use Rattle.mote_text.specs.Script.{read_line}
use Rattle.kernel_core.specs.declared.config.Config.{Config}
use Rattle.kernel_core.specs.Machine.{booted, is_bootable}
use Rattle.mote_session.specs.History.{History, at_boot, with_call, with_input, with_said}
use Rattle.mote_session.specs.SessionRuns.{IsHistoryOf, SessionPromise}
use Rattle.mote_session.specs.SessionView.{SessionView}
use Rattle.mote_session.specs.Steps.{Advances, with_made}
use Rattle.mote_session.specs.declared.refusal.SessionRefusal.{SessionRefusal}
use Rattle.mote_session.specs.declared.session.Next.{Next}
use Rattle.library_core.specs.Calls.{call_said}
use Rattle.library_core.specs.declared.call.PlainCall.{PlainCall}
use Rattle.library_core.specs.declared.turn.PlainTurn.{PlainTurn}
use Rattle.library_core.specs.Steps.{Goes, GoesNext, GoesOn, IsLastLine, IsOpened, TakesCall, TakesInput, TakesScriptLine, feed_status, next_status, refusal_status, step_number}

closed_statuses : (feed_status (codes "tick 5") None ≡ 22) × (next_status None ≡ 22)
closed_statuses = (refl, refl)

module _ (before after : PlainTurn) (old new : SessionView) where
  -- step 3 reports that a mote was halted before
  told_as_halted : GoesNext 3 before after old new → old.machine.is_halted ≡ true
  told_as_halted is = halted is.next is.is_step is.advances where
    halted : (next : Next) → 3 ≡ step_number next → Advances next old new → old.machine.is_halted ≡ true
    halted Next.Halted step advances = advances.halted
    halted next step advances = absurd (omega (arith, step))

  -- if no call is awaited, the turn is unchanged; the history continues as the step makes it
  of_the_next : (step : ℕ) (is : GoesNext step before after old new)
      → (new.turn ≡ None → after ≡ before) × (new.inputs ≡ old.inputs) × GoesOn (with_made is.next new.last) old new
  of_the_next step is = (λ none. rw none at is.turn, is.inputs.0, is.history)

module _ (old new : SessionView) where
  keeps_its_promise : (more : History → History) (history : History) → GoesOn more old new → IsHistoryOf history old
      → SessionPromise (more history) new
  keeps_its_promise more history goes is = (goes history is).1

  module _ (plain : PlainCall) where
    no_call : call_said plain ≡ None → TakesCall plain old new → ⊥
    no_call none takes = cc (sym none ∙ takes.said)

    answers_the_turn : (takes : TakesCall plain old new) → (new.turn ≡ None) × (new.machine.clock ≡ old.machine.clock)
        × GoesOn (with_call old.turn takes.call) old new
    answers_the_turn takes = (takes.submitted.closed, takes.inputs.1, takes.history)

  module _ (line : List ℕ) where
    -- a malformed line is not read
    no_form : read_line line ≡ None → TakesScriptLine line old new → ⊥
    no_form none takes = rw none at takes.takes

    goes_on_by_the_line : (history : History) → TakesScriptLine line old new → IsHistoryOf history old
        → IsHistoryOf (with_said (read_line line) history) new
    goes_on_by_the_line history takes is = takes.history history is

  one_is_handed_in : (input : Input) → TakesInput input old new → (new.inputs ≡ old.inputs + 1)
      × ((history : History) → IsHistoryOf history old → IsHistoryOf (with_input input history) new)
  one_is_handed_in input takes = (takes.fed.inputs, takes.history)

no_line : (bytes : List ℕ) (session : SessionView) → session.last ≡ None → IsLastLine bytes session → ⊥
no_line bytes session none is = rw none at is

-- a mote is open as it was booted, and only if it boots
opened : (config : Config) (new : SessionView) → IsOpened config new → (is_bootable config ≡ true) × (new.machine ≡ booted config)
    × (new.turn ≡ None) × (new.last ≡ None) × IsHistoryOf (at_boot config) new
opened config new is = (is.bootable, is.machine, is.turn, is.last, is.history)

refusal_numbers : map refusal_status (SessionRefusal.BadLine ∷ SessionRefusal.Halted ∷ SessionRefusal.AwaitsCall ∷ SessionRefusal.NoTurn
    ∷ SessionRefusal.NotAtRest ∷ SessionRefusal.NoInput ∷ SessionRefusal.TooManyInputs ∷ SessionRefusal.NoLine ∷ [])
    ≡ 2 ∷ 3 ∷ 24 ∷ 25 ∷ 26 ∷ 28 ∷ 29 ∷ 30 ∷ []
refusal_numbers = refl

module _ (R : SessionView → SessionView → Type 0) where
  -- no step starts or ends with a closed mote
  not_of_closed : (session : SessionView) → (Goes R None (Some session) → ⊥) × (Goes R (Some session) None → ⊥)
  not_of_closed session = (λ goes. goes, λ goes. goes)
