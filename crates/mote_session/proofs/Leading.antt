-- A session from its boot: input by input, then n steps after the last one.
use Rattle.std.proofs.Common.{◌≡◌, ◌+◌, ℕ, zero, suc, true, false, List, ◌∷◌, ◌++◌, refl, ap, sym, ◌∙◌, append_assoc, append-nil, option_to_list, Option, None, Some, is_none, ◌&&◌, []}
use Rattle.std.proofs.lemmas.List.{append_cancel_left}
use Rattle.mote_types.specs.Applications.{Applications}
use Rattle.mote_types.specs.declared.entry.Entry.{Entry}
use Rattle.mote_types.specs.declared.entry.Input.{Input}
use Rattle.kernel_core.specs.Code.Steps.{MakesEntry, Silently}
use Rattle.kernel_core.specs.Machine.{Machine}
use Rattle.kernel_core.specs.Run.{ComesToRest, Running, Runs, after_step, after_steps, choices_after, at_start, is_still, one_step, with_input}
use Rattle.kernel_core.proofs.Determined.{rest_from, rest_one, steps_plus, still_rest}
use Rattle.mote_session.specs.Answered.{AnswersAs}
use Rattle.mote_session.specs.History.{History}
use Rattle.mote_session.specs.SessionRuns.{Leads, StandsAt}
use Rattle.mote_session.specs.SessionView.{AwaitedCall}

abbrev pub running_at : List Entry → Machine → Running
running_at entries machine = record { machine = machine; entries = entries }

-- r's entries are a prefix of w's, and all of them if nothing more happens
abbrev Begins : Running → Running → Type 0
Begins r w =
    (later : List Entry)
    × (w.entries ≡ r.entries ++ later)
    × (is_still r.machine ≡ true → (later ≡ []) × (w.machine ≡ r.machine))

module _ (says : Applications) where
  pub leads_on : (old r w : Running) (inputs : List Input) → Leads says old inputs r → Leads says r [] w → Leads says old inputs w
  leads_on old r w [] (n, e) (k, f) = (n + k, steps_plus says n k old ∙ (ap (after_steps says k) e ∙ f))
  leads_on old r w (input ∷ inputs) (rested, rests, running, on) goes =
      (rested, rests, running, leads_on (with_input input rested) r w inputs on goes)

  pub leads_fed : (old r : Running) (inputs : List Input) (input : Input) →
      is_still r.machine ≡ true → r.machine.is_halted ≡ false →
      Leads says old inputs r → Leads says old (inputs ++ input ∷ []) (with_input input r)
  leads_fed old r [] input still running (n, e) = (r, (n, e, still), running, (0, refl))
  leads_fed old r (first ∷ inputs) input still running (rested, rests, up, on) =
      (rested, rests, up, leads_fed (with_input first rested) r inputs input still running on)

  entries_grow : (n : ℕ) (r : Running) → (later : List Entry) × ((after_steps says n r).entries ≡ r.entries ++ later)
  entries_grow zero r = ([], sym (append-nil r.entries))
  entries_grow (suc n) r =
      let more : List Entry = option_to_list (one_step (choices_after says r.entries) r.machine).1 in
      let grown = entries_grow n (after_step says r) in
      (more ++ grown.0, grown.1 ∙ append_assoc r.entries more grown.0)

  rest_begins : (r w : Running) → ComesToRest says r w → Begins r w
  rest_begins r w rests =
      let grown = entries_grow rests.0 r in
      let front : w.entries ≡ r.entries ++ grown.0 = ap (λ (x : Running). x.entries) (sym rests.1) ∙ grown.1 in (
        grown.0,
        front,
        λ still.
            let same : w ≡ r = still_rest says r w still rests in (
              append_cancel_left r.entries grown.0 [] (sym front ∙ (ap (λ (x : Running). x.entries) same ∙ sym (append-nil r.entries))),
              ap (λ (x : Running). x.machine) same,
            ),
      )

  -- a run on the same inputs begins with these entries
  run_begins : (old r w : Running) (inputs : List Input) → Leads says old inputs r → Runs says old inputs w → Begins r w
  run_begins old r w [] (n, e) rests = rest_begins r w (rest_from says old r w n e rests)
  run_begins old r w (input ∷ inputs) (rested, rests, up, on) (other, comes, stop, go) =
      let same : other ≡ rested = rest_one says old other rested comes rests in
      run_begins (with_input input rested) r w inputs on (rw same at (go (rw same up)))

  module _ (history : History) (machine : Machine) (answers : AnswersAs says history.entries) (last : Running)
      (runs : Runs says (at_start history.config) history.inputs last) where
    -- so does a run on a history's inputs while no call is awaited
    pub so_far : (turn : Option AwaitedCall) → StandsAt history turn machine →
        (later : List Entry)
        × (last.entries ≡ history.entries ++ later)
        × ((is_none turn && is_still machine) ≡ true → (later ≡ []) × (last.machine ≡ machine))
    so_far None come =
        run_begins (at_start history.config) (running_at history.entries machine) last history.inputs (come says answers) runs
    so_far (Some turn) (before, come, awaits) =
        let begun =
        run_begins (at_start history.config) (running_at history.entries before) last history.inputs (come says answers) runs in
        (begun.0, begun.1, λ settled. absurd (cc))

  module _ (entries : List Entry) where
    pub silent_from : (n : ℕ) (a b : Machine) → Silently (choices_after says entries) n a b →
        after_steps says n (running_at entries a) ≡ running_at entries b
    silent_from zero a b same = ap (running_at entries) same
    silent_from (suc n) a b (next, first, rest) = rw (first, append-nil entries) (silent_from n next b rest)

    -- an entry is made after these
    pub makes_after : (a b : Machine) (entry : Entry) → MakesEntry (choices_after says entries) a entry b →
        Leads says (running_at entries a) [] (running_at (entries ++ entry ∷ []) b)
    makes_after a b entry makes =
        let n = makes.before.count in
        let first = silent_from n a makes.last makes.before.steps in
        (n + 1, steps_plus says n 1 (running_at entries a) ∙ rw (first, makes.makes) refl)
