-- How a run is closed.
use Rattle.std.proofs.Common.{◌≡◌, ℕ, Bool, true, false, List, [], ◌++◌, refl, ap, sym, subst, ◌∙◌, length, Result, Ok, Err, Option, None, Some, IfSome, IsErrAnd}
use Rattle.kernel_core.specs.declared.config.Config.{Config}
use Rattle.medium_core.specs.declared.link.Link.{Link}
use Rattle.mote_text.specs.declared.script.End.{End}
use Rattle.network_session.specs.Happenings.{Happening}
use Rattle.network_session.specs.Network.{NetworkView}
use Rattle.network_session.specs.Promise.{IsLogOf, NetworkPromise}
use Rattle.network_session.specs.declared.fault.NetworkFault.{NetworkFault}
use Rattle.network_run.specs.Code.Way.{ComesWith, Ends, Faulted, Moment, Reading, RunFaulted, RunsIf, Stopped, Went, is_write, moment}
use Rattle.mote_text.specs.Code.Writing.{WritesOn}
use Rattle.network_run.specs.NetworkRunText.{CanStop, Gives, HasRun, IsExhausted, NetworkRan, ending_text}
use Rattle.mote_session.specs.Voices.{Voices}
use Rattle.network_run.specs.declared.fault.NetworkRunFault.{NetworkRunFault}
use Rattle.network_run.proofs.Ready.{leads_awaits, start_ready}
use Rattle.network_run.proofs.Lengths.{leads_length}
use Rattle.network_run.proofs.Scripts.{all_given, given_all, given_in_turn}
use Rattle.network_run.proofs.Speaking.{make_the_calls}
use Rattle.network_run.specs.Outside.{AreInTurn, Outside, all_outside, givens}
use Rattle.network_run.proofs.Ways.{faulted_after, faulted_before, stopped_after}
use Rattle.mote_text.proofs.Writing.{nothing_more, then_written}
use Rattle.network_steps.specs.NetworkRuns.{Leads, Move, log_of, moves_text}
use Rattle.network_steps.specs.NetworkScript.{read_network_lines}
use Rattle.network_steps.specs.NetworkText.{last_line}
use Rattle.network_steps.specs.declared.input.NetworkInput.{NetworkInput}

-- before the lines of a script the motes are started
module _ (quiet : Bool) where
  pub runs_after : (result : Result End NetworkRunFault) (script : Reading) (from mid to : Moment) → Went quiet [] from mid → RunsIf result quiet script mid to →
      RunsIf result quiet script from to
  runs_after (Ok end) script from mid to first ends = record {
    outside = ends.outside;
    comes = ends.comes;
    left = ends.left;
    can = ends.can;
    stopped = stopped_after quiet first ends.stopped;
  }
  runs_after (Err fault) script from mid to first run =
      record { outside = run.outside; comes = run.comes; faulted = faulted_after quiet first run.faulted }

  pub started : (result : Result End NetworkRunFault) (n : ℕ) (lines : List (List ℕ)) (from mid to : Moment) → Went quiet [] from mid →
      RunsIf result quiet (read_network_lines (length mid.net.motes) n lines) mid to → RunsIf result quiet (read_network_lines (length from.net.motes) n lines) from to
  started result n lines from mid to first runs =
      runs_after result (read_network_lines (length from.net.motes) n lines) from mid to first
      (subst (λ (motes : ℕ). RunsIf result quiet (read_network_lines motes n lines) mid to) (leads_length first.moves from.net mid.net first.leads) runs)

  all_to_come : (inputs : List NetworkInput) → ComesWith inputs (all_given inputs)
  all_to_come inputs = record { given = sym (given_all inputs); in_turn = given_in_turn inputs }

  pub exhausted_at_start : (script : Reading) (from to : Moment) → Went quiet [] from to → IsExhausted to.net → Ends quiet script End.Halted from to
  exhausted_at_start script from to went exhausted = record {
    outside = all_given script.0;
    comes = all_to_come script.0;
    left = all_given script.0;
    can = exhausted;
    stopped = record { carried = []; parts = refl; went = went };
  }

  -- or there is a fault there
  pub fault_at_start : (inputs : List NetworkInput) (fault : NetworkRunFault) (from to : Moment) → Faulted quiet [] fault from to → RunFaulted quiet inputs fault from to
  fault_at_start inputs fault from to faulted =
      record { outside = all_given inputs; comes = all_to_come inputs; faulted = faulted_before quiet (all_given inputs) faulted }

-- the promise, as the law of a network's texts says it
abbrev pub PromiseLaw : Type 0
PromiseLaw = (configs : ℕ → Config) (room : ℕ) (links : List (List Link)) (log : List Happening) (moves : List Move) (old new : NetworkView) →
    IsLogOf configs room links log old → Leads old moves new → NetworkPromise configs room links (log ++ log_of old moves) new

module _ (law : PromiseLaw) (quiet : Bool) (script : Reading) (start net : NetworkView) (voices later_voices : Voices) where
  -- what was done, and the text of that
  ran : (said : Voices) (given now due later lost text : List ℕ) (outside left : List Outside) (ending : Option (Result End NetworkFault)) →
      ComesWith script.0 outside → Stopped quiet outside left due (moment given [] start voices) (moment now due net said) →
      IfSome ending (CanStop net left script.1) → WritesOn now due later lost text → text ≡ ending_text ending →
      Gives given later (λ written. NetworkRan quiet start voices script written lost ending)
  ran said given now due later lost text outside left ending comes stopped ends writes is =
      let all = then_written stopped.went.writes writes in
      let came : outside ≡ all_outside stopped.went.moves ++ left = stopped.parts ∙ ap (λ v. v ++ left) (sym stopped.went.carried) in (
        all.out,
        all.given,
        record {
          moves = stopped.went.moves;
          net = net;
          leads = stopped.went.leads;
          left = left;
          calls = make_the_calls stopped.went.moves start net voices said stopped.went.leads stopped.went.calls;
          inputs = comes.given ∙ ap givens came;
          answered = λ none. leads_awaits stopped.went.moves start net none stopped.went.leads stopped.went.answered;
          in_turn = subst AreInTurn came comes.in_turn;
          ends = ends;
          is_text = sym all.parted ∙ ap (λ (t : List ℕ). moves_text quiet start stopped.went.moves ++ t) is;
          promise = λ configs room links booted. law configs room links [] stopped.went.moves start net booted stopped.went.leads;
        },
      )

  pub closed : (end : End) (given now due later : List ℕ) → Ends quiet script end (moment given [] start voices) (moment now due net later_voices) →
      WritesOn now due later [] (last_line end) → Gives given later (λ written. HasRun quiet start voices script written (Ok end))
  closed end given now due later ends writes =
      ran later_voices given now due later [] (last_line end) ends.outside ends.left (Some (Ok end)) ends.comes ends.stopped ends.can writes refl

  pub cut_off : (end : End) (given now due later lost : List ℕ) → Ends quiet script end (moment given [] start voices) (moment now due net later_voices) →
      WritesOn now due later lost (last_line end) → Gives given later (λ written. HasRun quiet start voices script written (Err NetworkRunFault.Write))
  cut_off end given now due later lost ends writes =
      let r = ran later_voices given now due later lost (last_line end) ends.outside ends.left (Some (Ok end)) ends.comes ends.stopped ends.can writes refl in
      (r.0, r.1, (lost, Some (Ok end), r.2))

  pub failed_before : (fault : NetworkRunFault) (given now due : List ℕ) → is_write fault ≡ true →
      RunFaulted quiet script.0 fault (moment given [] start voices) (moment now due net later_voices) →
      Gives given now (λ written. HasRun quiet start voices script written (Err fault))
  failed_before NetworkRunFault.Write given now due is run =
      let faulted = run.faulted in
      let r = ran faulted.voices given now faulted.lost now faulted.lost [] run.outside faulted.left None run.comes
      (record { carried = faulted.stopped.carried; parts = faulted.stopped.parts; went = faulted.stopped.went }) tt (nothing_more now faulted.lost) refl in
      (r.0, r.1, (faulted.lost, None, r.2))
  failed_before (NetworkRunFault.Refused refusal) given now due is run = absurd (cc)

  stopped_whole : (fault : NetworkRunFault) (outside : List Outside) (given now due : List ℕ) → is_write fault ≡ false →
      (faulted : Faulted quiet outside fault (moment given [] start voices) (moment now due net later_voices)) →
      Stopped quiet outside faulted.left due (moment given [] start voices) (moment now due net faulted.voices)
  stopped_whole fault outside given now due not faulted =
      subst (λ (lost : List ℕ). Stopped quiet outside faulted.left lost (moment given [] start voices) (moment now due net faulted.voices)) (faulted.kept not) faulted.stopped

  pub failed_now : (fault : NetworkRunFault) (given now due later lost : List ℕ) → is_write fault ≡ false →
      RunFaulted quiet script.0 fault (moment given [] start voices) (moment now due net later_voices) →
      WritesOn now due later lost [] → Gives given later (λ written. HasRun quiet start voices script written (Err NetworkRunFault.Write))
  failed_now fault given now due later lost not run writes =
      let faulted = run.faulted in
      let r = ran faulted.voices given now due later lost [] run.outside faulted.left None run.comes (stopped_whole fault run.outside given now due not faulted) tt
      writes refl in
      (r.0, r.1, (lost, None, r.2))

  pub failed : (fault : NetworkRunFault) (given now due later : List ℕ) → is_write fault ≡ false →
      RunFaulted quiet script.0 fault (moment given [] start voices) (moment now due net later_voices) →
      WritesOn now due later [] [] → Gives given later (λ written. HasRun quiet start voices script written (Err fault))
  failed NetworkRunFault.Write given now due later not run writes = absurd (cc)
  failed (NetworkRunFault.Refused refusal) given now due later not run writes =
      let faulted = run.faulted in
      let r = ran faulted.voices given now due later [] [] run.outside faulted.left (Some (Err refusal)) run.comes
      (stopped_whole (NetworkRunFault.Refused refusal) run.outside given now due not faulted) faulted.why writes refl in
      (r.0, r.1, (r.2, λ at_start. faulted.much (start_ready start at_start) at_start.awaits at_start.far))

-- the fault that is handed on is that of a write
pub at_write : (quiet : Bool) (script : Reading) (start : NetworkView) (voices : Voices) (given later : List ℕ) (result : Result End NetworkRunFault) (fault : NetworkRunFault) →
    IsErrAnd result (λ (handed : NetworkRunFault). handed ≡ fault) → fault ≡ NetworkRunFault.Write → Gives given later (λ written. HasRun quiet start voices script written (Err NetworkRunFault.Write)) →
    Gives given later (λ written. HasRun quiet start voices script written result)
at_write quiet script start voices given later (Ok end) fault is write gives = absurd is
at_write quiet script start voices given later (Err handed) fault is write gives =
    subst (λ (f : NetworkRunFault). Gives given later (λ written. HasRun quiet start voices script written (Err f))) (sym (is ∙ write)) gives

-- nothing is due any more
pub emptied : {g₀ d₀ g₁ due text : List ℕ} → due ≡ [] → WritesOn g₀ d₀ g₁ due text → WritesOn g₀ d₀ g₁ [] text
emptied {g₀} {d₀} {g₁} {text = text} none writes = subst (λ (due : List ℕ). WritesOn g₀ d₀ g₁ due text) none writes
