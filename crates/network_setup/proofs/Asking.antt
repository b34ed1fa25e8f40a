-- A turn of one application among those of all motes, or of none of them.
use Rattle.std.proofs.Common.{◌≡◌, ◌≢◌, ◌<◌, ◌≤◌, ◌+◌, ◌-◌, ◌⊎◌, ◌==◌, ◌&&◌, ℕ, inl, inr, nat_lt, zero, suc, Bool, true, false, List, [], ◌∷◌, length, set, get_or, slice_get, refl, ap, sym, ◌∙◌, arith, Some}
use Rattle.std.proofs.lemmas.Bool.Decides.{nat_tests}
use Rattle.std.specs.Global.{Vec}
use Rattle.mote_types.proofs.Voices.{says_of_application, slice_get_set_other}
use Rattle.mote_types.specs.Applications.{nth_says, says_of}
use Rattle.mote_types.specs.declared.call.Call.{Call}
use Rattle.mote_types.specs.declared.event.Stimulus.{Stimulus}
use Rattle.mote_session.specs.Voices.{IsCall}
use Rattle.network_setup.specs.MoteApps.{mote_app_says, voices_of}
use Rattle.network_setup.specs.declared.mote_app.MoteApp.{MoteApp}

there_at : {X : Type 0} (xs : List X) (i : ℕ) (d : X) → i < length xs → slice_get xs i ≡ Some (get_or xs i d)
there_at [] i d within = absurd (omega arith)
there_at (x ∷ xs) zero d within = refl
there_at (x ∷ xs) (suc i) d within = there_at xs i d (omega arith)

set_there : {X : Type 0} (xs : List X) (i : ℕ) (y : X) → i < length xs → slice_get (set xs i y) i ≡ Some y
set_there [] i y within = absurd (omega arith)
set_there (x ∷ xs) zero y within = refl
set_there (x ∷ xs) (suc i) y within = set_there xs i y (omega arith)

module _ (motes : List (Vec MoteApp)) (m p : ℕ) (stimulus : Stimulus) (call : Call) (before after : Vec MoteApp)
    (within : m < length motes) (there : before ≡ get_or motes m before) where
  abbrev old : List Stimulus → Call
  old stimuli = says_of mote_app_says before.items p stimuli

  abbrev new : List Stimulus → Call
  new stimuli = says_of mote_app_says after.items p stimuli

  module _ (made : call ≡ old (stimulus ∷ [])) (law : (next : Stimulus) (later : List Stimulus) → new (next ∷ later) ≡ old (stimulus ∷ next ∷ later))
      (same : (q : ℕ) (stimuli : List Stimulus) → q ≢ p → says_of mote_app_says after.items q stimuli ≡ says_of mote_app_says before.items q stimuli) where
    get_old : slice_get motes m ≡ Some before
    get_old = there_at motes m before within ∙ ap (λ (v : Vec MoteApp). Some v) (sym there)

    get_new : slice_get (set motes m after) m ≡ Some after
    get_new = set_there motes m after within

    other_said : (n q : ℕ) (is : Bool) → (n == m) ≡ is → (n == m && q == p) ≡ false → (next : Stimulus) (later : List Stimulus) →
        voices_of (set motes m after) n q (next ∷ later) ≡ voices_of motes n q (next ∷ later)
    other_said n q true e other next later =
        let number : n ≡ m = grind (arith, nat_tests) in
        let apart : q ≢ p = grind (arith, nat_tests) in
        rw (number, get_new, get_old) (same q (next ∷ later) apart)
    other_said n q false e other next later =
        let apart : n ≢ m = grind (arith, nat_tests) in rw (slice_get_set_other motes m n after apart) refl

    pub turn_is_call : IsCall m p stimulus call (voices_of motes) (voices_of (set motes m after))
    turn_is_call = record {
      made = rw get_old (sym made);
      law = λ next later. rw (get_new, get_old) (law next later);
      others = λ n q other next later. other_said n q (n == m) refl other next later;
    }

-- an application that doesn't exist waits

silent_beyond : (apps : List MoteApp) (i : ℕ) (stimuli : List Stimulus) → length apps ≤ i → nth_says mote_app_says apps i stimuli ≡ Call.Wait
silent_beyond [] i stimuli beyond = refl
silent_beyond (app ∷ apps) zero stimuli beyond = absurd (omega (arith, beyond))
silent_beyond (app ∷ apps) (suc i) stimuli beyond = silent_beyond apps i stimuli (omega (arith, beyond))

silent_here : (apps : List MoteApp) (p : ℕ) (stimuli : List Stimulus) → (p < 4) ⊎ (4 + length apps ≤ p) → says_of mote_app_says apps p stimuli ≡ Call.Wait
silent_here apps p stimuli (inl early) = let test : nat_lt p 4 ≡ true = grind (arith, nat_tests) in rw test refl
silent_here apps p stimuli (inr late) =
    says_of_application mote_app_says apps p stimuli (omega (arith, late)) ∙ silent_beyond apps (p - 4) stimuli (omega (arith, late))

module _ (motes : List (Vec MoteApp)) (m p : ℕ) where
  pub silent_application : (apps : Vec MoteApp) → m < length motes → apps ≡ get_or motes m apps → (p < 4) ⊎ (4 + length apps.items ≤ p) →
      (stimuli : List Stimulus) → voices_of motes m p stimuli ≡ Call.Wait
  silent_application apps within there lacks stimuli =
      let here : slice_get motes m ≡ Some apps = there_at motes m apps within ∙ ap (λ (v : Vec MoteApp). Some v) (sym there) in
      rw here (silent_here apps.items p stimuli lacks)

  pub waits_is_call : (stimulus : Stimulus) → ((stimuli : List Stimulus) → voices_of motes m p stimuli ≡ Call.Wait) →
      IsCall m p stimulus Call.Wait (voices_of motes) (voices_of motes)
  waits_is_call stimulus silent = record {
    made = silent (stimulus ∷ []);
    law = λ next later. silent (next ∷ later) ∙ sym (silent (stimulus ∷ next ∷ later));
    others = λ n q other next later. refl;
  }
