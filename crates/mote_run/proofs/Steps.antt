-- Steps of the kernel, as steps of a run that begins there.
use Rattle.std.proofs.Common.{arith, ◌≡◌, ◌+◌, ℕ, zero, suc, Bool, true, false, List, ◌∷◌, ◌++◌, refl, ap, sym, ◌∙◌, append_assoc, option_to_list, []}
use Rattle.mote_run.proofs.Common.{filter_map-append, Applications, Stimulus, Entry, Input, Step, Machine, Choices, Running, Runs, ComesToRest, after_step, after_steps, choices_after, gone_on, heard, one_step, stimulus_of, with_input, GoesOn, Silently, made, HasHeard}
use Rattle.std.proofs.Math.Path.{fun_ext}
use Rattle.kernel_core.proofs.Determined.{steps_plus}

module _ (says : Applications) where
  silent_steps : (n : ℕ) (a b : Machine) → Silently (choices_after says []) n a b →
      after_steps says n (record { machine = a; entries = [] }) ≡ record { machine = b; entries = [] }
  silent_steps zero a b same = ap (λ m. record { machine = m; entries = [] }) same
  silent_steps (suc n) a b (next, first, rest) = rw first (silent_steps n next b rest)

  -- the machine makes in some steps what a step of the kernel made
  pub made_steps : (old new : Machine) (step : Step) → GoesOn (λ p stimulus. says p (stimulus ∷ [])) old step new →
      (k : ℕ) × (after_steps says k (record { machine = old; entries = [] }) ≡ record { machine = new; entries = made step })
  made_steps old new (Step.Entry entry) makes =
      let n = makes.before.count in (
        n + 1,
        steps_plus says n 1 (record { machine = old; entries = [] })
            ∙ rw ((silent_steps n old makes.last makes.before.steps), makes.makes) refl,
      )
  made_steps old new Step.Rest goes = (goes.before.count, silent_steps goes.before.count old new goes.before.steps)
  made_steps old new Step.Halted goes = (0, rw goes.1 refl)

  heard_more : (now : Applications) (entries : List Entry) (p : ℕ) (received : List Stimulus) (next : Stimulus) (later : List Stimulus) →
      HasHeard says entries now → now p (received ++ (next ∷ later)) ≡ says p (heard p entries ++ (received ++ (next ∷ later)))
  heard_more now entries p [] next later has_heard = has_heard.each p next later
  heard_more now entries p (first ∷ received) next later has_heard = has_heard.each p first (received ++ (next ∷ later))

-- After these entries a run continues as one that starts there, with applications that received them.
module _ {says now : Applications} {entries : List Entry} (has_heard : HasHeard says entries now) where
  abbrev pub after : Running → Running
  after r = record { machine = r.machine; entries = entries ++ r.entries }

  same_choices : (more : List Entry) → choices_after says (entries ++ more) ≡ choices_after now more
  same_choices more = fun_ext (λ p. fun_ext (λ stimulus.
      ap (λ v. says p (v ++ stimulus ∷ [])) (filter_map-append (stimulus_of p) entries more)
      ∙ (ap (says p) (append_assoc (heard p entries) (heard p more) (stimulus ∷ []))
      ∙ sym (heard_more says now entries p (heard p more) stimulus [] has_heard))))

  step_after : (r : Running) → after_step says (after r) ≡ after (after_step now r)
  step_after r =
      let step = one_step (choices_after now r.entries) r.machine in
      ap (λ (choices : Choices). gone_on (entries ++ r.entries) (one_step choices r.machine)) (same_choices r.entries)
      ∙ ap (λ v. record { machine = step.0; entries = v }) (append_assoc entries r.entries (option_to_list step.1))

  steps_after : (n : ℕ) (r : Running) → after_steps says n (after r) ≡ after (after_steps now n r)
  steps_after zero r = refl
  steps_after (suc n) r = ap (after_steps says n) (step_after r) ∙ steps_after n (after_step now r)

  rest_after : (r w : Running) → ComesToRest says (after r) w → (v : Running) × ComesToRest now r v × (w ≡ after v)
  rest_after r w is = grind (arith, steps_after)

  input_after : (input : Input) (later : List Input) (r rested w : Running) →
      ((r w : Running) → Runs says (after r) later w → (v : Running) × Runs now r later v × (w ≡ after v)) → ComesToRest now r rested →
      (rested.machine.is_halted ≡ true → w ≡ after rested)
      → (rested.machine.is_halted ≡ false → Runs says (with_input input (after rested)) later w) →
      (halted : Bool) → rested.machine.is_halted ≡ halted → (v : Running) × Runs now r (input ∷ later) v × (w ≡ after v)
  input_after input later r rested w others rests stop go true h = (rested, (rested, rests, (λ s. refl), λ s. cc), stop h)
  input_after input later r rested w others rests stop go false h =
      let next = others (with_input input rested) w (go h) in
      (next.0, (rested, rests, (λ s. cc), λ s. next.1), next.2)

  pub runs_after : (inputs : List Input) (r w : Running) → Runs says (after r) inputs w → (v : Running) × Runs now r inputs v
      × (w ≡ after v)
  runs_after [] r w runs = rest_after r w runs
  runs_after (input ∷ later) r w (rested, rests, stop, go) =
      let rest = rest_after r rested rests in
      input_after input later r rest.0 w (λ r w runs. runs_after later r w runs) rest.1
      (λ h. stop (rw rest.2 h) ∙ rest.2) (λ h. rw rest.2 at (go (rw rest.2 h))) rest.0.machine.is_halted refl
