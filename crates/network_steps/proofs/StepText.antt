-- The text of what happens in a step is the lines of what the step comes to.
use Rattle.std.proofs.Common.{◌≡◌, ℕ, Bool, true, false, not, List, [], ◌∷◌, ◌++◌, refl, ap, sym, ◌∙◌, append-nil, slice_get, codes, is_some, Option, None, Some, IsSomeAnd, if◌then◌else◌}
use Rattle.arrayvec.specs.ArrayVec.{ArrayVec}
use Rattle.medium_core.specs.Air.{Air, arrival}
use Rattle.medium_core.specs.Laws.{all_done}
use Rattle.medium_core.specs.declared.flight.Flight.{Flight}
use Rattle.mote_session.specs.Code.Shown.{is_last_shown}
use Rattle.mote_session.specs.Sent.{sent_in}
use Rattle.mote_session.specs.SessionView.{SessionView}
use Rattle.mote_session.specs.declared.session.Next.{Next}
use Rattle.mote_types.specs.declared.call.Call.{Call}
use Rattle.mote_types.specs.declared.entry.Entry.{Entry}
use Rattle.network_session.specs.Happenings.{Happening, all_deeds, deeds_of}
use Rattle.network_session.specs.Logs.{happened, heard_by, made, made_by, submitted, told_by}
use Rattle.network_session.specs.Network.{NetworkView}
use Rattle.network_session.specs.Steps.{IsNetworkSubmitted, Worked}
use Rattle.network_session.specs.declared.outcome.Outcome.{Outcome}
use Rattle.network_session.proofs.Heard.{missed_due}
use Rattle.network_session.proofs.Working.{there_after}
use Rattle.network_steps.specs.Code.StepLines.{last_entry_line}
use Rattle.network_steps.specs.NetworkRuns.{DoesStep}
use Rattle.network_steps.specs.NetworkText.{frame_line, if_shown, log_text, missed_line, sent_lines}
use Rattle.network_steps.proofs.Moves.{air_step, one_deed}
use Rattle.network_steps.specs.Lines.{shown_entry, shown_losses}
use Rattle.network_steps.specs.Works.{came_lines, came_of}
use Rattle.network_steps.specs.declared.came.Came.{Came}
use Rattle.network_steps.proofs.Silent.{idle_if}

module _ (quiet : Bool) where
  -- the lines of a mote's last entry, and of the frame that it sent
  abbrev entry_lines : ℕ → SessionView → Air → List ℕ
  entry_lines m mote air =
      if_shown (is_last_shown quiet mote.last) (last_entry_line m mote.last) ++ if_shown (not quiet) (sent_lines m (sent_in mote.last) air)

  nothing_shown : (shown : Bool) → if_shown shown [] ≡ []
  nothing_shown true = refl
  nothing_shown false = refl

  losses_by : (m : ℕ) (o : Option (ArrayVec ℕ)) (net : NetworkView) →
      if_shown (not quiet) (sent_lines m o net.air) ≡ shown_losses quiet (if is_some o then Some (record { from = m; place = 0 }) else None) net
  losses_by m None net = nothing_shown (not quiet)
  losses_by m (Some bytes) net = refl

  made_lines : (m : ℕ) (mote : SessionView) (new : NetworkView) → slice_get new.motes m ≡ Some mote →
      entry_lines m mote new.air ≡ came_lines quiet (Came.Entry m) new
  made_lines m mote new there =
      rw there (ap (λ (lost : List ℕ). shown_entry quiet m (Some mote) ++ lost) (losses_by m (sent_in mote.last) new))

  entry_is : (m : ℕ) (mote : SessionView) (entry : Entry) (old new : Air) → mote.last ≡ Some entry →
      new ≡ all_done (deeds_of (Happening.Entry m entry)) old → log_text quiet old (made m mote.last) ≡ entry_lines m mote new
  entry_is m mote entry old new last air = rw (last, air) (append-nil _)

  other_is : (m : ℕ) (old new : NetworkView) → Worked m Next.Entry old new →
      log_text quiet old.air (happened (Outcome.Worked m Next.Entry) old new) ≡ came_lines quiet (Came.Entry m) new
  other_is m old new s =
      let w = s.worked in
      let there = there_after m old.motes new.motes w.before w.after w.mote w.others in
      let log : happened (Outcome.Worked m Next.Entry) old new ≡ Happening.Entry m w.advances.entry ∷ [] = ap (made_by m) there ∙ ap (made m) w.advances.last in
      let air : new.air ≡ all_done (deeds_of (Happening.Entry m w.advances.entry)) old.air =
      air_step (Outcome.Worked m Next.Entry) old new s
      ∙ (ap (λ (log : List Happening). all_done (all_deeds log) old.air) log ∙ one_deed (Happening.Entry m w.advances.entry) old.air) in
      ap (λ (o : Option SessionView). log_text quiet old.air (made_by m o)) there
      ∙ (entry_is m w.after w.advances.entry old.air new.air w.advances.last air ∙ made_lines m w.after new there)

  -- a turn, whose call was submitted
  pub submitted_is : (m : ℕ) (call : Call) (old new : NetworkView) → old.active ≡ Some m → IsNetworkSubmitted call old new →
      log_text quiet old.air (submitted old new) ≡ came_lines quiet (Came.Entry m) new
  submitted_is m call old new active s =
      let w = s.submitted in
      let own : s.m ≡ m = let e = s.was_active in let f = active in cc in
      let there : slice_get new.motes m ≡ Some w.after = rw (← own) (there_after s.m old.motes new.motes w.before w.after w.mote w.others) in
      let text : log_text quiet old.air (submitted old new) ≡ entry_lines m w.after new.air = rw (active, there, w.submitted.last) (append-nil _) in
      text ∙ made_lines m w.after new there

  told_text : (clock m : ℕ) (mote : Option SessionView) (air : Air) → log_text quiet air (told_by clock m mote) ≡ []
  told_text clock m None air = refl
  told_text clock m (Some mote) air = refl

  heard_text : (m : ℕ) (flight : Option Flight) (air : Air) → log_text quiet air (heard_by m flight) ≡ []
  heard_text m None air = refl
  heard_text m (Some flight) air = refl

  missed_text : (flight : Option Flight) (from to : ℕ) (P : Flight → Type 0) → IsSomeAnd flight (λ (f : Flight). (f.from ≡ from) × (f.to ≡ to) × P f) →
      missed_line flight ≡ frame_line (codes "missed") from to
  missed_text None from to P h = absurd h
  missed_text (Some f) from to P h = rw (h.0, h.1) refl

  -- what isn't reported has no lines
  abbrev pub lines_if : Option Came → NetworkView → List ℕ
  lines_if None net = []
  lines_if (Some came) net = came_lines quiet came net

  pub step_is : (x : Outcome) (old new : NetworkView) → DoesStep x old new → log_text quiet old.air (happened x old new) ≡ lines_if (came_of x) new
  step_is (Outcome.Worked m Next.Entry) old new does = other_is m old new does.steps
  step_is (Outcome.Missed from to) old new does =
      let none = idle_if old.active does.work in
      ap (λ (line : List ℕ). if_shown (not quiet) line ++ []) (missed_text (arrival old.air) from to _ (missed_due old from to (does.due none)))
  step_is Outcome.Clock old new does = sym (ap (came_lines quiet Came.Clock) does.steps)
  step_is (Outcome.Woken m) old new does = told_text old.air.clock m (slice_get old.motes m) old.air
  step_is (Outcome.Heard m) old new does = heard_text m (arrival old.air) old.air
  step_is (Outcome.Started m) old new does = refl
  step_is (Outcome.Worked m Next.Turn) old new does = refl
  step_is (Outcome.Worked m Next.Rest) old new does = refl
  step_is (Outcome.Worked m Next.Halted) old new does = refl
  step_is Outcome.Rest old new does = refl
  step_is Outcome.Exhausted old new does = refl
