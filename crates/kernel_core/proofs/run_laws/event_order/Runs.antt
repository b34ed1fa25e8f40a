-- What every step preserves holds in every run: after each entry, and at rest.
use Rattle.process_core.specs.Scheduler.{after_front_of, job_at, job_of_event, job_of_item, wants_round}
use Rattle.kernel_core.proofs.Common.{decide, list_any, Input, Entry, Applications, Job, after_front, job, Config, Machine, scheduled, IsAtRest, effect, Choices, StepMade, Running, Runs, ComesToRest, silent, job_done, within_limit, is_still, is_at_rest, after_step, after_steps, choices_after, at_start, with_input, gone_on, list_any-append, Call, Reply, Stimulus, Event, Origin, Note, Queued, Item, is_kernel_process, reply_of, Scheduler, after_item, in_front, after_call, serve, with_more_work}
use Rattle.std.proofs.Common.{◌≡◌, ℕ, zero, suc, Bool, true, false, List, [], ◌∷◌, ◌++◌, refl, subst, arith, append-nil, append_assoc, Option, Some, None, option_to_list, if◌then◌else◌, sym, ◌==◌, slice_get}
use Rattle.mote_types.specs.Entries.{is_halt}
use Rattle.kernel_core.proofs.run_laws.Changes.{serve-untouched, is_note, is_turn, behind}

-- replies that the entries don't show
abbrev pub Known : Type 0
Known = ℕ → Option Reply

abbrev pub nothing_known : Known
nothing_known p = None

-- what is known before this entry
abbrev pub told : Entry → Known → Known
told (Entry.Turn pid origin stimulus call) known = λ p. if p == pid.0 then reply_of stimulus else known p
told _ known = known

-- the known reply is the next one; the replies of outer activations may be any
abbrev pub FrontAgrees : Known → List Item → Type 0
FrontAgrees known (Item.Turn q origin stimulus ∷ items) = known q ≡ reply_of stimulus
FrontAgrees known (Item.Show entry ∷ items) = FrontAgrees known items
FrontAgrees known _ = Unit {0}

-- known replies that agree
abbrev agreeing : List Item → Known
agreeing (Item.Turn q origin stimulus ∷ items) = λ p. reply_of stimulus
agreeing (Item.Show entry ∷ items) = agreeing items
agreeing _ = nothing_known

agrees : (items : List Item) → FrontAgrees (agreeing items) items
agrees (Item.Turn q origin stimulus ∷ items) = refl
agrees (Item.Show entry ∷ items) = agrees items
agrees _ = tt

-- a statement about a machine and the entries before it
abbrev Invariant : Type 1
Invariant = Known → Machine → List Entry → Type 0

-- a run from boot
pub record Ran : Type 0 where
  pub config : Config
  pub says : Applications
  pub inputs : List Input
  pub after : Running
  pub runs : Runs says (at_start config) inputs after

abbrev pub ran : (config : Config) (says : Applications) (inputs : List Input) (after : Running)
    → Runs says (at_start config) inputs after → Ran
ran config says inputs after runs = record { config = config; says = says; inputs = inputs; after = after; runs = runs }

abbrev after_fed : Running → Input → Running
after_fed r input = record { machine = effect input (record r.machine { work = 0 }); entries = r.entries ++ Entry.Input input ∷ [] }

abbrev is_input : Entry → Bool
is_input (Entry.Input input) = true
is_input _ = false

module _ (R : List Entry → Entry → Type 0) (Q : List Entry → Type 0) where
  abbrev Shown : List Entry → Entry → Type 0
  Shown X e = R X e × (is_input e ≡ true → Q X)

  -- R holds of each entry after the earlier ones, and Q before each input
  abbrev pub AllFrom : List Entry → List Entry → Type 0
  AllFrom before [] = Unit {0}
  AllFrom before (e ∷ later) = Shown before e × AllFrom (before ++ e ∷ []) later

  all-more : (before X : List Entry) (e : Entry) → AllFrom before X → Shown (before ++ X) e → AllFrom before (X ++ e ∷ [])
  all-more before [] e all r = (rw append-nil at r, tt)
  all-more before (x ∷ X) e all r = grind (decide, append_assoc, all-more (before ++ x ∷ []) X e all.1)

  pub at-split : (before X later : List Entry) (e : Entry) → AllFrom before (X ++ e ∷ later) → Shown (before ++ X) e
  at-split before [] later e all = rw append-nil all.0
  at-split before (x ∷ X) later e all = grind (decide, append_assoc, at-split (before ++ x ∷ []) X later e all.1)

abbrev pub Anything : List Entry → Type 0
Anything X = Unit {0}

abbrev pub Keeps : (List Entry → Type 0) → List Entry → Entry → Type 0
Keeps P before e = P before → P (before ++ e ∷ [])

all-kept : (P : List Entry → Type 0) (done before later : List Entry) → AllFrom (Keeps P) Anything done (before ++ later) → P done
    → P (done ++ before)
all-kept P done [] later all h = rw append-nil h
all-kept P done (e ∷ before) later all h = grind (decide, append_assoc, all-kept P (done ++ e ∷ []) before later all.1 (all.0.0 h))

-- neither a turn nor shown
abbrev pub is_quiet_item : Item → Bool
is_quiet_item (Item.Turn q origin stimulus) = false
is_quiet_item (Item.Show entry) = false
is_quiet_item _ = true

abbrev pub is_served : Item → Bool
is_served (Item.Give q origin (Stimulus.Event event)) = is_kernel_process q
is_served _ = false

-- an item and the machine without it: before the item is executed, and after
abbrev pub facing : Item → Machine → Machine
facing item m = scheduled (behind item) m

abbrev pub carried : Item → Machine → Machine
carried item m = scheduled (after_item item) m

abbrev with_agenda : List Item → Machine → Machine
with_agenda items m = scheduled (λ s. record s { agenda = items }) m

-- a kernel process is Running and takes no turn
pub kernel_carried : (q : ℕ) (origin : Origin) (stimulus : Stimulus) (m : Machine) → is_kernel_process q ≡ true
    → carried (Item.Give q origin stimulus) m ≡ m
kernel_carried = grind decide

-- a turn with its call, the machine without it, and the entries before it
pub record Taken : Type 0 where
  pub m : Machine
  pub X : List Entry
  pub q : ℕ
  pub origin : Origin
  pub stimulus : Stimulus
  pub call : Call

abbrev pub taking : Taken → Machine
taking t = facing (Item.Turn t.q t.origin t.stimulus) t.m

abbrev pub taken : Taken → Machine
taken t = after_call t.call t.q (with_more_work t.m)

abbrev pub entry_of : Taken → Entry
entry_of t = Entry.Turn (record { 0 = t.q }) t.origin t.stimulus t.call

abbrev pub with_turn : Taken → List Entry
with_turn t = t.X ++ entry_of t ∷ []

-- K holds of each machine and its entries, for all `known` that agree with the first reply; R holds of each entry
pub record Cases (K : Invariant) (R : List Entry → Entry → Type 0) : Type 0 where
  -- an expiry was delivered
  pub called_back : (known : Known) (m : Machine) (X : List Entry) (q c : ℕ) → K known (facing Item.Deliver m) X
      → K known (carried Item.Deliver m) X
      → K known (facing (Item.Give q Origin.Callback (Stimulus.Callback c)) (carried Item.Deliver m)) X
  pub carried : (known : Known) (m : Machine) (X : List Entry) (item : Item) → is_quiet_item item ≡ true → is_served item ≡ false
      → K known (facing item m) X → K known (carried item m) X
  pub served : (known : Known) (m : Machine) (X : List Entry) (q : ℕ) (origin : Origin) (event : Event) → is_kernel_process q ≡ true
      → K known (facing (Item.Give q origin (Stimulus.Event event)) m) X → K known (serve q event m) X
  pub round : (known : Known) (m : Machine) (X : List Entry) → K known (with_agenda [] m) X
      → K known (with_more_work (with_agenda (Item.Polls ∷ Item.Deliver ∷ []) m)) X
  pub turn : (known : Known) (t : Taken) → FrontAgrees known (taken t).scheduler.agenda → K (told (entry_of t) known) (taking t) t.X
      → K known (taken t) (with_turn t)
  pub told : (t : Taken) → K (told (entry_of t) nothing_known) (taking t) t.X → R t.X (entry_of t)
  pub notes : (known : Known) (m : Machine) (X : List Entry) (entry : Entry) → K known (facing (Item.Show entry) m) X
      → is_note entry ≡ true
  pub shown : (known : Known) (m : Machine) (X : List Entry) (note : Note) → K known (facing (Item.Show (Entry.Note note)) m) X
      → K known m (X ++ Entry.Note note ∷ [])
  pub noted : (known : Known) (m : Machine) (X : List Entry) (note : Note) → K known (facing (Item.Show (Entry.Note note)) m) X
      → R X (Entry.Note note)
  pub other : (X : List Entry) (e : Entry) → is_turn e ≡ false → is_note e ≡ false → R X e
  pub input : (known : Known) (m : Machine) (X : List Entry) (input : Input) → m.scheduler.agenda ≡ [] → K known m X
      → K known (effect input (record m { work = 0 })) (X ++ Entry.Input input ∷ [])

call-halted : (call : Call) (q : ℕ) (m : Machine) → (after_call call q m).is_halted ≡ m.is_halted
call-halted call q m = grind arith

module _ (K : Invariant) (R : List Entry → Entry → Type 0) (cases : Cases K R) where
  abbrev Holds : Machine → List Entry → Type 0
  Holds m X = (known : Known) → FrontAgrees known m.scheduler.agenda → K known m X

  record Kept (X : List Entry) (step : StepMade) : Type 0 where
    holds : step.0.is_halted ≡ false → Holds step.0 (X ++ option_to_list step.1)
    shown : (e : Entry) → step.1 ≡ Some e → R X e × (is_input e ≡ false)
    halts : step.0.is_halted ≡ true → list_any is_halt (option_to_list step.1) ≡ true

  module _ (X : List Entry) where
    -- also if Halt is shown
    limit_kept : (m : Machine) (step : StepMade) → Kept X step → Kept X (within_limit m step)
    limit_kept = grind decide

    silent_kept : (m : Machine) → m.is_halted ≡ false → Holds m X → Kept X (silent m)
    silent_kept m live h =
        record { holds = λ up known agrees. rw append-nil (h known agrees); shown = grind decide; halts = grind decide }

    module _ (m : Machine) (live : m.is_halted ≡ false) where
      at_agenda : (agenda : List Item) → m.scheduler.agenda ≡ agenda → Holds m X → Holds (with_agenda agenda m) X
      at_agenda agenda e h = grind arith

      module _ (choices : Choices) where
        round_kept : (b : Bool) → m.scheduler.agenda ≡ [] → Holds m X
            → Kept X (job_done choices (Some (if b then Job.Round else Job.Rest))
            (record m { scheduler = if b then in_front (Item.Polls ∷ Item.Deliver ∷ []) m.scheduler else m.scheduler }))
        round_kept true e h =
            limit_kept (scheduled (in_front (Item.Polls ∷ Item.Deliver ∷ [])) m) _
            (silent_kept _ live (λ known u.
            grind (decide, cases.round known m X (at_agenda [] e h known tt))))
        round_kept false e h = silent_kept m live h

        delivered_kept : (event : Option (Queued Bool)) → ((known : Known) → K known (facing Item.Deliver m) X)
            → Kept X (job_done choices (job_of_event event) (carried Item.Deliver m))
        delivered_kept (Some (Queued.Expiry q c false)) h =
            silent_kept _ live
            (λ known u. cases.called_back known m X q c (h known) (cases.carried known m X Item.Deliver refl refl (h known)))
        delivered_kept event h = silent_kept _ live (λ known u. cases.carried known m X Item.Deliver refl refl (h known))

        give_kept : (b : Bool) (q : ℕ) (origin : Origin) (event : Event) → is_kernel_process q ≡ b
            → ((known : Known) → K known (facing (Item.Give q origin (Stimulus.Event event)) m) X)
            → Kept X (job_done choices (if b then Some (Job.Serve q event) else None)
            (carried (Item.Give q origin (Stimulus.Event event)) m))
        give_kept true q origin event k h =
            subst (λ n. Kept X (silent (serve q event n))) (sym (kernel_carried q origin (Stimulus.Event event) m k))
            (silent_kept _ (rw ((serve-untouched q event m).halted) live) (λ known u. cases.served known m X q origin event k (h known)))
        give_kept false q origin event k h = silent_kept _ live (λ known u. cases.carried known m X _ refl k (h known))

        front_kept : (full : Scheduler Bool) (item : Item) → Holds (facing item m) X
            → Kept X (job_done choices (job_of_item item full) (carried item m))
        front_kept full (Item.Turn q origin stimulus) h =
            let t : Taken = record { m = m; X = X; q = q; origin = origin; stimulus = stimulus; call = choices q stimulus } in
            let before : (known : Known) → K (told (entry_of t) known) (taking t) X = λ known. h (told (entry_of t) known) (grind decide) in
            let r = cases.told t (before nothing_known) in
            limit_kept m _ (record {
              holds = λ up known agrees. cases.turn known t agrees (before known);
              shown = grind decide;
              halts = grind (decide, call-halted);
            })
        front_kept full (Item.Show entry) h = show entry (h (agreeing m.scheduler.agenda) (agrees m.scheduler.agenda)) h
          where
            show : (entry : Entry) → K (agreeing m.scheduler.agenda) (facing (Item.Show entry) m) X → Holds (facing (Item.Show entry) m) X
                → Kept X (m, Some entry)
            show (Entry.Note note) given h =
                record {
                  holds = λ up known agrees. cases.shown known m X note (h known agrees);
                  shown = grind decide;
                  halts = grind decide;
                }
            show entry given h = absurd (grind (arith, cases.notes _ m X entry given))
        front_kept full (Item.Give q origin (Stimulus.Event event)) h =
            give_kept (is_kernel_process q) q origin event refl (λ known. h known tt)
        front_kept full Item.Deliver h = delivered_kept (slice_get full.events 0) (λ known. h known tt)
        front_kept full item h = silent_kept _ live (λ known u. cases.carried known m X item refl refl (h known tt))

    step_kept : (m : Machine) → m.is_halted ≡ false → (choices : Choices) (agenda : List Item) → m.scheduler.agenda ≡ agenda → Holds m X
        → Kept X (job_done choices (job_at agenda m.scheduler) (record m { scheduler = after_front_of agenda m.scheduler }))
    step_kept m live choices [] e h = round_kept m live choices (wants_round m.scheduler) e h
    step_kept m live choices (item ∷ items) e h =
        front_kept (with_agenda items m) live choices m.scheduler item (at_agenda m live (item ∷ items) e h)

  module _ (Q : List Entry → Type 0) (rest : (m : Machine) (X : List Entry) → is_at_rest m ≡ true → K nothing_known m X → Q X) where
    record Good (r : Running) : Type 0 where
      each : AllFrom R Q [] r.entries
      holds : r.machine.is_halted ≡ false → Holds r.machine r.entries
      halts : r.machine.is_halted ≡ true → list_any is_halt r.entries ≡ true

    module _ (r : Running) where
      record Ended : Type 0 where
        good : Good r
        still : is_still r.machine ≡ true

      rested : Ended → r.machine.is_halted ≡ false → Q r.entries
      rested ended live = grind arith

      good-fed : (input : Input) → Ended → r.machine.is_halted ≡ false → Good (after_fed r input)
      good-fed input ended live =
          let none : r.machine.scheduler.agenda ≡ [] = grind decide in
          record {
            each = all-more R Q [] r.entries (Entry.Input input) ended.good.each
                (cases.other r.entries (Entry.Input input) refl refl, λ _. rested ended live);
            holds = λ up known agrees. cases.input known r.machine r.entries input none (ended.good.holds live known (rw none tt));
            halts = grind decide;
          }

    module _ (says : Applications) where
      module _ (r : Running) where
        kept-good : (step : StepMade) → Good r → Kept r.entries step → Good (gone_on r.entries step)
        kept-good step g k =
            record { each = go step.1 refl; holds = k.holds; halts = λ halted. grind (decide, list_any-append) }
          where
            go : (o : Option Entry) → step.1 ≡ o → AllFrom R Q [] (r.entries ++ option_to_list o)
            go None e = rw append-nil g.each
            go (Some entry) e =
                all-more R Q [] r.entries entry g.each ((k.shown entry e).0, λ i. absurd (grind arith))

        good-step : (b : Bool) → r.machine.is_halted ≡ b → Good r
            → Good (gone_on r.entries
            (if b then silent r.machine else job_done (choices_after says r.entries) (job r.machine.scheduler)
            (scheduled after_front r.machine)))
        good-step true e g = grind (decide, append-nil)
        good-step false e g =
            kept-good _ g (step_kept r.entries r.machine e (choices_after says r.entries) r.machine.scheduler.agenda refl (g.holds e))

      good-steps : (n : ℕ) (r : Running) → Good r → Good (after_steps says n r)
      good-steps zero r g = g
      good-steps (suc n) r g = good-steps n (after_step says r) (good-step r r.machine.is_halted refl g)

      good-rest : (old new : Running) → Good old → ComesToRest says old new → Ended new
      good-rest old new g (n, goes, still) =
          record { good = subst (λ (r : Running). Good r) goes (good-steps n old g); still = still }

      -- the first step shows the input
      fed-rest : (r new : Running) (input : Input) → r.machine.is_halted ≡ false → ComesToRest says (with_input input r) new
          → ComesToRest says (after_fed r input) new
      fed-rest r new input live (zero, goes, still) = absurd (grind decide)
      fed-rest r new input live (suc n, goes, still) = (n, grind decide, still)

      fed-runs : (inputs : List Input) (r new : Running) (input : Input) → r.machine.is_halted ≡ false
          → Runs says (with_input input r) inputs new → Runs says (after_fed r input) inputs new
      fed-runs [] r new input live rests = fed-rest r new input live rests
      fed-runs (next ∷ inputs) r new input live (there, rests, stop, go) = (there, fed-rest r there input live rests, stop, go)

      on-input : (input : Input) (r new : Running) → Ended r → (r.machine.is_halted ≡ true → new ≡ r)
          → (r.machine.is_halted ≡ false → Good (after_fed r input) → Ended new) → (b : Bool) → r.machine.is_halted ≡ b → Ended new
      on-input input r new ended stop go true e = grind decide
      on-input input r new ended stop go false e = go e (good-fed r input ended e)

      run-ended : (inputs : List Input) (old new : Running) → Good old → Runs says old inputs new → Ended new
      run-ended [] old new g rests = good-rest old new g rests
      run-ended (input ∷ inputs) old new g (r, rests, stop, go) =
          on-input input r new (good-rest old r g rests) stop
          (λ live fed. run-ended inputs (after_fed r input) new fed (fed-runs inputs r new input live (go live))) r.machine.is_halted refl

    module _ (run : Ran) (boot : (known : Known) → K known (at_start run.config).machine []) where
      run-good : Ended run.after
      run-good =
          run-ended run.says run.inputs (at_start run.config) run.after
          (record { each = tt; holds = λ live known agrees. boot known; halts = grind decide }) run.runs

      -- Q holds wherever the run rests
      pub at_rest : (before : List Entry) → IsAtRest run.after.entries before → Q before
      at_rest _ (IsAtRest.before_input before later input e) =
          (at-split R Q [] before later (Entry.Input input) (rw e run-good.good.each)).1 refl
      at_rest _ (IsAtRest.at_end n) = rested run.after run-good (grind (decide, run-good.good.halts))

  module _ (run : Ran) (boot : (known : Known) → K known (at_start run.config).machine []) where
    pub at_each : AllFrom R Anything [] run.after.entries
    at_each = (run-good Anything (λ m X r h. tt) run boot).good.each

pub at_prefixes : {K : Invariant} {P : List Entry → Type 0} → Cases K (Keeps P) → (run : Ran)
    → ((known : Known) → K known (at_start run.config).machine []) → P []
    → (before later : List Entry) → before ++ later ≡ run.after.entries → P before
at_prefixes {K = K} {P = P} cases run boot none before later e =
    all-kept P [] before later (rw e (at_each K (Keeps P) cases run boot)) none
