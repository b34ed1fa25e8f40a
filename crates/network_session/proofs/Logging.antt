-- The log of a network goes on.
use Rattle.std.proofs.Common.{◌≡◌, ◌≢◌, ℕ, zero, suc, ◌==◌, List, [], ◌∷◌, ◌++◌, filter_map, set, slice_get, refl, ap, sym, subst, ◌∙◌, arith, append-nil, Bool, true, false, Option, Some, None, IsSomeAnd}
use Rattle.std.proofs.lemmas.Bool.Decides.{nat_tests}
use Rattle.std.proofs.lemmas.List.Elements.{filter_map-append}
use Rattle.std.proofs.lemmas.List.Concat.{flat_map-append}
use Rattle.network_session.specs.Alarms.{earliest_in}
use Rattle.arrayvec.specs.ArrayVec.{ArrayVec}
use Rattle.kernel_core.specs.declared.config.Config.{Config}
use Rattle.medium_core.specs.Air.{Air, arrival, still_air}
use Rattle.medium_core.specs.Laws.{Deed, all_done}
use Rattle.medium_core.specs.declared.flight.Flight.{Flight}
use Rattle.medium_core.specs.declared.link.Link.{Link}
use Rattle.mote_session.specs.History.{History, with_call, with_entry, with_input}
use Rattle.mote_session.specs.Sent.{sent_by_entry, sent_in}
use Rattle.mote_session.specs.SessionRuns.{IsHistoryOf}
use Rattle.mote_session.specs.SessionView.{SessionView, rests}
use Rattle.mote_session.specs.Steps.{Advances, HasSameInputs, IsSubmitted, IsFed, with_made}
use Rattle.mote_session.specs.declared.session.Next.{Next}
use Rattle.mote_types.specs.declared.call.Call.{Call}
use Rattle.mote_types.specs.declared.entry.Entry.{Entry}
use Rattle.mote_types.specs.declared.entry.Input.{Input}
use Rattle.network_session.specs.Happenings.{AreArrivals, Happening, IsArrival, IsFrameFor, all_deeds, deeds_of, entry_of, history_of, input_of, sends}
use Rattle.network_session.specs.Logs.{submitted, submitted_by, happened, heard_by, made, made_by, told_by}
use Rattle.network_session.specs.Network.{NetworkView, wakes_of}
use Rattle.network_session.specs.Promise.{AreHistories, IsLogOf}
use Rattle.network_session.specs.Steps.{IsNetworkSubmitted, IsNetworkFed, Steps, Worked, aired, aired_if}
use Rattle.network_session.specs.Waking.{due_ticks}
use Rattle.network_session.specs.declared.outcome.Outcome.{Outcome}
use Rattle.network_session.proofs.Working.{there_after}

-- the laws of a session

abbrev pub NextLaw : Type 0
NextLaw = (history : History) (step : Next) (old new : SessionView) → IsHistoryOf history old → old.turn ≡ None →
    Advances step old new → HasSameInputs old new → IsHistoryOf (with_made step new.last history) new

abbrev pub SubmitLaw : Type 0
SubmitLaw = (history : History) (call : Call) (old new : SessionView) → IsHistoryOf history old →
    IsSubmitted call old new → HasSameInputs old new → IsHistoryOf (with_call old.turn call history) new

abbrev pub InputLaw : Type 0
InputLaw = (history : History) (input : Input) (old new : SessionView) → IsHistoryOf history old → rests old ≡ true →
    IsFed input old new → IsHistoryOf (with_input input history) new

-- a longer log

same : (m : ℕ) → (m == m) ≡ true
same m = grind (arith, nat_tests)

module _ (config : Config) (m : ℕ) (log : List Happening) where
  -- what one more happening makes of a history
  grown : History → List Input → List Entry → History
  grown history inputs entries = record history { inputs = history.inputs ++ inputs; entries = history.entries ++ entries }

  more : (h : Happening) → history_of config m (log ++ h ∷ []) ≡ grown (history_of config m log) (filter_map (input_of m) (h ∷ [])) (filter_map (entry_of m) (h ∷ []))
  unfolding grown
  more h = rw (filter_map-append (input_of m) log (h ∷ []), filter_map-append (entry_of m) log (h ∷ [])) refl

  pub history_made : (entry : Entry) → history_of config m (log ++ Happening.Entry m entry ∷ []) ≡ with_entry entry (history_of config m log)
  unfolding grown
  history_made entry = more (Happening.Entry m entry) ∙ rw (same m, append-nil (filter_map (input_of m) log)) refl

  pub history_handed : (input : Input) → history_of config m (log ++ Happening.Fed m input ∷ []) ≡ with_input input (history_of config m log)
  unfolding grown
  history_handed input = more (Happening.Fed m input) ∙ rw (same m, append-nil (filter_map (entry_of m) log)) refl

  pub history_heard : (bytes : ArrayVec ℕ) → history_of config m (log ++ Happening.Heard m bytes ∷ []) ≡ with_input (Input.Frame bytes) (history_of config m log)
  unfolding grown
  history_heard bytes = more (Happening.Heard m bytes) ∙ rw (same m, append-nil (filter_map (entry_of m) log)) refl

  pub history_other : (h : Happening) → input_of m h ≡ None → entry_of m h ≡ None → history_of config m (log ++ h ∷ []) ≡ history_of config m log
  unfolding grown
  history_other h i e = more h ∙ rw (i, e, append-nil (filter_map (input_of m) log), append-nil (filter_map (entry_of m) log)) refl

done_more : (xs ys : List Deed) (air : Air) → all_done (xs ++ ys) air ≡ all_done ys (all_done xs air)
done_more [] ys air = refl
done_more (x ∷ xs) ys air = done_more xs ys _

pub air_more : (log : List Happening) (h : Happening) (air : Air) → all_done (all_deeds (log ++ h ∷ [])) air ≡ all_done (deeds_of h) (all_done (all_deeds log) air)
air_more log h air =
    ap (λ (deeds : List Deed). all_done deeds air) (flat_map-append deeds_of log (h ∷ []))
    ∙ (done_more (all_deeds log) (deeds_of h ++ []) air
    ∙ ap (λ (deeds : List Deed). all_done deeds (all_done (all_deeds log) air)) (append-nil (deeds_of h)))

pub arrivals_more : (log : List Happening) (h : Happening) (air : Air) → AreArrivals air log → IsArrival (all_done (all_deeds log) air) h → AreArrivals air (log ++ h ∷ [])
arrivals_more [] h air all one = (one, tt)
arrivals_more (g ∷ log) h air all one =
    (all.0, arrivals_more log h (all_done (deeds_of g) air) all.1 (subst (λ (a : Air). IsArrival a h) (done_more (deeds_of g) (all_deeds log) air) one))

pub get_other : {X : Type 0} (xs : List X) (i m : ℕ) (x : X) → i ≢ m → slice_get (set xs m x) i ≡ slice_get xs i
get_other [] i m x h = refl
get_other (z ∷ xs) zero zero x h = absurd (h refl)
get_other (z ∷ xs) zero (suc m) x h = refl
get_other (z ∷ xs) (suc i) zero x h = refl
get_other (z ∷ xs) (suc i) (suc m) x h = get_other xs i m x (λ e. h (ap suc e))

module _ (configs : ℕ → Config) where
  -- one mote's history goes on
  pub histories_with : (log later : List Happening) (motes new : List SessionView) (m : ℕ) (before after : SessionView) →
      AreHistories configs log motes → slice_get motes m ≡ Some before → new ≡ set motes m after →
      IsHistoryOf (history_of (configs m) m later) after →
      ((i : ℕ) → i ≢ m → history_of (configs i) i later ≡ history_of (configs i) i log) → AreHistories configs later new
  histories_with log later motes new m before after all there is own others i mote here = by_test (i == m) refl
    where
      by_test : (b : Bool) → (i == m) ≡ b → IsHistoryOf (history_of (configs i) i later) mote
      by_test true e =
          let own_number : i ≡ m = grind (arith, nat_tests) in
          let present : slice_get new m ≡ Some after = there_after m motes new before after there is in
          let one : mote ≡ after = let shown : slice_get new m ≡ Some mote = rw (← own_number) here in cc in
          rw (own_number, one) own
      by_test false e =
          let other : i ≢ m = grind (arith, nat_tests) in
          let old : slice_get motes i ≡ Some mote = sym (get_other motes i m after other) ∙ (ap (λ (l : List SessionView). slice_get l i) (sym is) ∙ here) in
          rw (others i other) (all i mote old)

module _ (i m : ℕ) (other : i ≢ m) where
  differs : (m == i) ≡ false
  differs = let h : m ≢ i = λ e. other (sym e) in grind (arith, nat_tests)

  module _ (config : Config) (log : List Happening) where
    other_made : (entry : Entry) → history_of config i (log ++ Happening.Entry m entry ∷ []) ≡ history_of config i log
    other_made entry = history_other config i log (Happening.Entry m entry) refl (rw differs refl)

    other_handed : (input : Input) → history_of config i (log ++ Happening.Fed m input ∷ []) ≡ history_of config i log
    other_handed input = history_other config i log (Happening.Fed m input) (rw differs refl) refl

    other_heard : (bytes : ArrayVec ℕ) → history_of config i (log ++ Happening.Heard m bytes ∷ []) ≡ history_of config i log
    other_heard bytes = history_other config i log (Happening.Heard m bytes) (rw differs refl) refl

aired_sends : (m : ℕ) (o : Option (ArrayVec ℕ)) (air : Air) → aired_if m o air ≡ all_done (sends m o) air
aired_sends m None air = refl
aired_sends m (Some bytes) air = refl

frame_for : (m : ℕ) (flight : Flight) (o : Option Flight) → o ≡ Some flight → flight.to ≡ m → IsSomeAnd o (IsFrameFor m flight.bytes)
frame_for m flight o e is = rw e (record { is_for = is; holds = refl })

module _ (configs : ℕ → Config) (room : ℕ) (links : List (List Link)) (log : List Happening) (old new : NetworkView) (l : IsLogOf configs room links log old) where
  log_one : (h : Happening) → AreHistories configs (log ++ h ∷ []) new.motes → new.air ≡ all_done (deeds_of h) old.air → IsArrival old.air h →
      IsLogOf configs room links (log ++ h ∷ []) new
  log_one h histories air one = record {
    motes = histories;
    air = air ∙ (ap (all_done (deeds_of h)) l.air ∙ sym (air_more log h (still_air room links)));
    heard = arrivals_more log h (still_air room links) l.heard (subst (λ (a : Air). IsArrival a h) l.air one);
  }

  log_none : AreHistories configs log new.motes → new.air ≡ old.air → IsLogOf configs room links (log ++ []) new
  log_none histories air = rw (append-nil log) (record { motes = histories; air = air ∙ l.air; heard = l.heard })

  quiet : (next : NextLaw) (m : ℕ) (step : Next) → Worked m step old new → ((history : History) (last : Option Entry) → with_made step last history ≡ history) →
      ((mote : SessionView) → aired m step mote old.air ≡ old.air) → IsLogOf configs room links (log ++ []) new
  quiet next m step w unmade unaired =
      let h = w.worked in
      let own : IsHistoryOf (history_of (configs m) m log) h.after =
      rw (unmade (history_of (configs m) m log) h.after.last) at
      (next (history_of (configs m) m log) step h.before h.after (l.motes m h.before h.mote) h.closed h.advances h.same) in
      log_none (histories_with configs log log old.motes new.motes m h.before h.after l.motes h.mote h.others own (λ i other. refl))
      (ap (λ (v : NetworkView). v.air) w.result ∙ unaired h.after)

  made_entry : (m : ℕ) (before after : SessionView) (entry : Entry) → slice_get old.motes m ≡ Some before → new.motes ≡ set old.motes m after →
      IsHistoryOf (with_entry entry (history_of (configs m) m log)) after → new.air ≡ all_done (sends m (sent_by_entry entry)) old.air →
      IsLogOf configs room links (log ++ Happening.Entry m entry ∷ []) new
  made_entry m before after entry there others own air =
      log_one (Happening.Entry m entry)
      (histories_with configs log (log ++ Happening.Entry m entry ∷ []) old.motes new.motes m before after l.motes there others
      (rw (history_made (configs m) m log entry) own) (λ i other. other_made i m other (configs i) log entry))
      air tt

  handed_input : (input : InputLaw) (m : ℕ) (given : Input) (before after : SessionView) → slice_get old.motes m ≡ Some before → new.motes ≡ set old.motes m after →
      rests before ≡ true → IsFed given before after → new.air ≡ old.air → IsLogOf configs room links (log ++ Happening.Fed m given ∷ []) new
  handed_input input m given before after there others rested fed air =
      log_one (Happening.Fed m given)
      (histories_with configs log (log ++ Happening.Fed m given ∷ []) old.motes new.motes m before after l.motes there others
      (rw (history_handed (configs m) m log given) (input (history_of (configs m) m log) given before after (l.motes m before there) rested fed))
      (λ i other. other_handed i m other (configs i) log given))
      air tt

  pub log_step : (next : NextLaw) (input : InputLaw) (outcome : Outcome) → Steps outcome old new → IsLogOf configs room links (log ++ happened outcome old new) new
  log_step next input (Outcome.Started m) s =
      log_none (rw (ap (λ (v : NetworkView). v.motes) s) l.motes) (ap (λ (v : NetworkView). v.air) s)
  log_step next input (Outcome.Worked m Next.Turn) s = quiet next m Next.Turn s (λ history last. refl) (λ mote. refl)
  log_step next input (Outcome.Worked m Next.Rest) s = quiet next m Next.Rest s (λ history last. refl) (λ mote. refl)
  log_step next input (Outcome.Worked m Next.Halted) s = quiet next m Next.Halted s (λ history last. refl) (λ mote. refl)
  log_step next input (Outcome.Worked m Next.Entry) s =
      let h = s.worked in
      let made_is : made_by m (slice_get new.motes m) ≡ Happening.Entry m h.advances.entry ∷ [] =
      ap (made_by m) (there_after m old.motes new.motes h.before h.after h.mote h.others) ∙ ap (made m) h.advances.last in
      let own : IsHistoryOf (with_entry h.advances.entry (history_of (configs m) m log)) h.after =
      subst (λ (o : Option Entry). IsHistoryOf (with_made Next.Entry o (history_of (configs m) m log)) h.after) h.advances.last
      (next (history_of (configs m) m log) Next.Entry h.before h.after (l.motes m h.before h.mote) h.closed h.advances h.same) in
      let air : new.air ≡ all_done (sends m (sent_by_entry h.advances.entry)) old.air =
      ap (λ (v : NetworkView). v.air) s.result ∙ (ap (λ (o : Option Entry). aired_if m (sent_in o) old.air) h.advances.last
      ∙ aired_sends m (sent_by_entry h.advances.entry) old.air) in
      rw made_is (made_entry m h.before h.after h.advances.entry h.mote h.others own air)
  log_step next input (Outcome.Woken m) s =
      let h = s.told in
      rw (ap (told_by old.air.clock m) h.mote)
      (handed_input input m (Input.Tick (due_ticks old.air.clock h.before.machine.clock)) h.before h.after h.mote h.others h.rested h.fed
      (ap (λ (v : NetworkView). v.air) s.result))
  log_step next input (Outcome.Heard m) s =
      let h = s.handed in
      let own = input (history_of (configs m) m log) (Input.Frame s.flight.bytes) h.before h.after (l.motes m h.before h.mote) h.rested h.fed in
      rw (ap (heard_by m) s.arrives)
      (log_one (Happening.Heard m s.flight.bytes)
      (histories_with configs log (log ++ Happening.Heard m s.flight.bytes ∷ []) old.motes new.motes m h.before h.after l.motes h.mote h.others
      (rw (history_heard (configs m) m log s.flight.bytes) own) (λ i other. other_heard i m other (configs i) log s.flight.bytes))
      (ap (λ (v : NetworkView). v.air) s.result) (frame_for m s.flight (arrival old.air) s.arrives s.is_for))
  log_step next input (Outcome.Missed from to) s =
      log_one Happening.Missed
      (rw (ap (λ (v : NetworkView). v.motes) s) (λ i mote there. rw (history_other (configs i) i log Happening.Missed refl refl) (l.motes i mote there)))
      (ap (λ (v : NetworkView). v.air) s) tt
  log_step next input Outcome.Clock s =
      let moment : ℕ = earliest_in old.target (wakes_of old.motes) in
      log_one (Happening.Clock moment)
      (rw (ap (λ (v : NetworkView). v.motes) s) (λ i mote there. rw (history_other (configs i) i log (Happening.Clock moment) refl refl) (l.motes i mote there)))
      (ap (λ (v : NetworkView). v.air) s) tt
  log_step next input Outcome.Exhausted s =
      log_none (rw (ap (λ (v : NetworkView). v.motes) s) l.motes) (ap (λ (v : NetworkView). v.air) s)
  log_step next input Outcome.Rest s =
      log_none (rw (ap (λ (v : NetworkView). v.motes) s) l.motes) (ap (λ (v : NetworkView). v.air) s)

  pub log_submit : (answer : SubmitLaw) (call : Call) → IsNetworkSubmitted call old new → IsLogOf configs room links (log ++ submitted old new) new
  log_submit answer call s =
      let h = s.submitted in
      let a = h.submitted in
      let entry : Entry = Entry.Turn a.turn.process a.turn.origin a.turn.stimulus call in
      let made_is : submitted old new ≡ Happening.Entry s.m entry ∷ [] =
      ap (submitted_by new) s.was_active
      ∙ (ap (made_by s.m) (there_after s.m old.motes new.motes h.before h.after h.mote h.others) ∙ ap (made s.m) a.last) in
      let own : IsHistoryOf (with_entry entry (history_of (configs s.m) s.m log)) h.after =
      rw a.awaited at (answer (history_of (configs s.m) s.m log) call h.before h.after (l.motes s.m h.before h.mote) a h.same) in
      rw made_is (made_entry s.m h.before h.after entry h.mote h.others own (ap (λ (v : NetworkView). v.air) s.result))

  pub log_feed : (input : InputLaw) (m : ℕ) (given : Input) → IsNetworkFed m given old new → IsLogOf configs room links (log ++ Happening.Fed m given ∷ []) new
  log_feed input m given s =
      let h = s.handed in
      handed_input input m given h.before h.after h.mote h.others h.rested h.fed (ap (λ (v : NetworkView). v.air) s.result)
