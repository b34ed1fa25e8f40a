-- Parts of a run, one after another, and the shortest ones.
use Rattle.std.proofs.Common.{arith, ◌≡◌, ℕ, Bool, true, false, List, ◌∷◌, ◌++◌, refl, sym, ◌∙◌, append_assoc, ◌||◌, if◌then◌else◌, [], Result}
use Rattle.mote_run.proofs.Common.{nat_tests, list_any, append-nil, filter-append, is_halt, Entry, Input, Reading, end_of, final_line, End, Step, fed, Machine, Choices, Running, Runs, is_still, GoesOn, made, Follows, Goes, HasHeard, Moment, Went, end_at, WritesOn, lines}
use Rattle.std.proofs.lemmas.Bool.{true_from_ne_false}
use Rattle.std.proofs.lemmas.Result.{MatchResult-weaker}
use Rattle.std.proofs.lemmas.List.Folds.{list_any-append}
use Rattle.std.proofs.lemmas.Grind.{flat_map-append}
use Rattle.mote_types.specs.declared.call.Call.{Call}
use Rattle.kernel_core.proofs.Determined.{run_from, still_rest}
use Rattle.kernel_core.specs.Code.IdleRound.{RestsAfter}
use Rattle.mote_run.proofs.Steps.{made_steps, runs_after}

end_later : (a b c : Bool) (x y : End) → (if a then x else if b || c then x else y) ≡ (if a || b then x else if c then x else y)
end_later a b c x y = grind arith

ends_later : (old new : Bool) (entries more all : List Entry) (end : End) → all ≡ entries ++ more
    → new ≡ (old || list_any is_halt entries) →
    (if old then End.Halted else end_of all end) ≡ (if new then End.Halted else end_of more end)
ends_later old new entries more all end same halted = grind (arith, list_any-append, end_later)

abbrev begun : Machine → Running
begun machine = record { machine = machine; entries = [] }

last_is : (here : Moment) → is_still here.machine ≡ true → (later : List Input) (last : Running)
    → (here.machine.is_halted ≡ false → later ≡ []) →
    Runs here.says (begun here.machine) later last → last ≡ begun here.machine
last_is here still [] last none runs = still_rest here.says (begun here.machine) last still runs
last_is here still (input ∷ later) last none (rested, rests, stop, go) =
    let same = still_rest here.says (begun here.machine) rested still rests in
    stop (rw same (true_from_ne_false here.machine.is_halted (λ h. let e = none h in absurd (cc)))) ∙ same

pub idle_is_still : (input : Input) (old new : Machine) → ((choices : Choices) → RestsAfter choices input old new) → is_still new ≡ true
idle_is_still input old new rests = grind (arith, rests (λ p stimulus. Call.Wait))

module _ (quiet : Bool) where
  lines-append : (entries more : List Entry) → lines quiet (entries ++ more) ≡ lines quiet entries ++ lines quiet more
  lines-append entries more = grind (arith, filter-append, flat_map-append)

module _ {quiet : Bool} where
  pub went_on : {inputs more : List Input} {from mid to : Moment} → Went quiet inputs from mid → Went quiet more mid to
      → Went quiet (inputs ++ more) from to
  went_on {inputs} {more} first second = record {
    out = first.out ++ second.out;
    given = grind (arith, append_assoc);
    onward = grind (arith, append_assoc);
  }

  pub went_further : {inputs : List Input} {from mid to : Moment}
      → Went quiet inputs from mid → Went quiet [] mid to → Went quiet inputs from to
  went_further {inputs} first second = rw (append-nil inputs) at (went_on first second)

  pub goes_further : {T Fault : Type 0} (answer : Result T Fault) {inputs : List Input} {from mid : Moment} (to : Moment)
      → Went quiet inputs from mid → Goes answer quiet [] mid to → Goes answer quiet inputs from to
  goes_further answer to first goes =
      MatchResult-weaker answer goes (λ _ w. went_further first w) (λ _ w. (w.0, w.1, w.2, went_further first w.3))

  pub went_nowhere : (here : Moment) → Went quiet [] here here
  went_nowhere here = record { out = []; given = sym (append-nil here.given); onward = λ later text end f. f }

  -- some pending text was written
  pub went_written : {here : Moment} {given pending : List ℕ} → WritesOn here.given here.pending given pending []
      → Went quiet [] here (record here { given = given; pending = pending })
  went_written w = record { out = w.out; given = w.given; onward = λ later text end f. grind (arith, append_assoc) }

  -- then the kernel makes a step, whose lines become pending
  pub went_step : {inputs : List Input} {from mid to : Moment} {pending : List ℕ} (step : Step) →
      Went quiet inputs from mid → WritesOn mid.given mid.pending to.given pending [] →
      GoesOn (λ p stimulus. mid.says p (stimulus ∷ [])) mid.machine step to.machine →
      HasHeard mid.says (made step) to.says →
      to.machine.is_halted ≡ (mid.machine.is_halted || list_any is_halt (made step)) → to.pending ≡ pending ++ lines quiet (made step) →
      Went quiet inputs from to
  went_step {mid = mid} {to = to} step so_far writes goes has_heard halted is =
      went_further (went_further so_far (went_written writes)) (record {
        out = [];
        given = sym (append-nil to.given);
        onward = λ later text end f.
            let k = made_steps mid.says mid.machine to.machine step goes in
            grind (
              arith,
              made,
              ends_later,
              lines-append,
              append_assoc,
              lines,
              final_line,
              runs_after has_heard later.0 (begun to.machine) f.last
                  (rw (← append-nil (made step)) at
                  (run_from mid.says (begun mid.machine) (record { machine = to.machine; entries = made step }) f.last later.0 k.0 k.1 f.runs)),
            );
      })

  -- an input is submitted
  pub input_went : {here : Moment} (input : Input) → is_still here.machine ≡ true → here.machine.is_halted ≡ false →
      Went quiet (input ∷ []) here (record here { machine = fed input here.machine })
  input_went {here} input still running = record {
    out = [];
    given = sym (append-nil here.given);
    onward = λ later text end f.
        grind (arith, still_rest here.says (begun here.machine) f.runs.0 still f.runs.1);
  }

  -- and its line becomes pending
  pub went_input : {here : Moment} {given pending pending_later : List ℕ} {new : Machine} (input : Input) → is_still here.machine ≡ true
      → here.machine.is_halted ≡ false → WritesOn here.given here.pending given pending [] →
      GoesOn (λ p stimulus. here.says p (stimulus ∷ [])) (fed input here.machine) (Step.Entry (Entry.Input input)) new
      → new.is_halted ≡ false →
      pending_later ≡ pending ++ lines quiet (Entry.Input input ∷ []) →
      Went quiet (input ∷ []) here (record here { given = given; pending = pending_later; machine = new })
  went_input {here} {new = new} input still running writes goes runs is =
      went_step (Step.Entry (Entry.Input input)) (input_went input still running) writes goes
      (record { each = λ p next later. refl }) (grind arith) is

  pub nothing_follows : (here : Moment) → is_still here.machine ≡ true → (later : Reading) (text : List ℕ) (end answered : End)
      → (here.machine.is_halted ≡ false → later ≡ ([], answered)) →
      Follows quiet here later text end → (text ≡ here.given ++ (here.pending ++ final_line (end_at here.machine answered)))
      × (end ≡ end_at here.machine answered)
  nothing_follows here still later text end answered none f = grind (arith, nat_tests, last_is)
