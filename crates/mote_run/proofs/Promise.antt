-- What was read and written keeps the promise of a run.
use Rattle.std.proofs.Common.{arith, ◌≡◌, ℕ, Bool, true, false, if◌then◌else◌, List, ◌++◌, refl, sym, ap, ◌∙◌, append_assoc, Result, Ok, Err, IfOk, IsErr, IsErrOf, []}
use Rattle.std.proofs.lemmas.List.{append_cancel_left}
use Rattle.mote_run.proofs.Common.{append-nil, is_halt, list_any, IsErrAnd, Applications, End, Reading, Running, Runs, at_start, inputs, end_of, final_line, text, Config, booted, is_bootable, RunFault, Exchange, Exchanged, IsRunText, OfEachScript, OnWholeLines, GoesOnFrom, LawfulRun, ReadsNoFurther, ReadWhileRunning, RunPromise, Ran, Follows, Moment, WritesOn}
use Rattle.mote_run.proofs.LoopInvariant.{no_last_line}
use Rattle.mote_run.proofs.Pieces.{on_err}
use Rattle.kernel_core.specs.Code.LawfulRuns.{LawfulRuns}
use Rattle.mote_run.specs.RunText.{WasBooted}
use Rattle.kernel_core.specs.Mote.{Mote}

pub boots_so : {kernel : Mote} {applications : ℕ} (config : Config) → WasBooted kernel applications → kernel.machine ≡ booted config
    → is_bootable config ≡ true
boots_so config was is = grind arith

not_halted : (halted : Bool) → (if halted then End.Halted else End.Finished) ≡ End.Finished → halted ≡ false
not_halted true is = cc
not_halted false is = refl

abbrev pub booting : List ℕ → Config → Applications → Moment
booting given config says = record { given = given; pending = []; says = says; machine = booted config }

module _ {config : Config} {says : Applications} {quiet : Bool} (exchange : Exchange) where
  all_written : (answer : Result End RunFault)
      → OfEachScript exchange (λ script. LawfulRun config says quiet script exchange.written answer)
      → IfOk answer (λ end. OfEachScript exchange (λ script. IsRunText config says quiet script exchange.written end))
  all_written (Err fault) lawful = tt
  all_written (Ok answered) lawful = λ more limits.
      let r = lawful more limits in
      let run = r.run in
      record { last = run.last; runs = run.runs; ends = r.all.1 ∙ run.ends; is_text = grind (arith, append-nil) }

module _ {config : Config} {says : Applications} {quiet : Bool} {read : List ℕ} {is_ended : Bool} {given_old given_new : List ℕ}
    {answer : Result End RunFault}
    (ran : Ran quiet read is_ended (booting given_old config says) given_new (λ end. []) answer) (laws : LawfulRuns config) where
  abbrev exchange : Exchange
  exchange = record { read = read; is_ended = is_ended; written = ran.out }

  -- from boot on, the text of a run follows what was written before
  follows : (later : Reading) (last : Running) (whole : List ℕ) (end : End) → Runs says (at_start config) later.0 last
      → end ≡ end_of last.entries later.1 → whole ≡ text quiet last.entries end →
      Follows quiet (booting given_old config says) later (given_old ++ whole) end
  follows later last whole end runs ends is = grind arith

  -- the output is a prefix of it
  written_of : OfEachScript exchange (λ script. (whole : List ℕ) (end : End) → IsRunText config says quiet script whole end →
      (rest : List ℕ) × (whole ≡ ran.out ++ rest) × IfOk answer (λ answered. (rest ≡ []) × (answered ≡ end)))
  written_of more limits whole end run =
      let left = ran.text more limits (given_old ++ whole) end
      (follows (inputs (read ++ more)) run.last whole end run.runs run.ends run.is_text) in (
        left.0,
        append_cancel_left given_old whole (ran.out ++ left.0)
            (left.1 ∙ (ap (λ v. v ++ left.0) ran.is_given ∙ append_assoc given_old ran.out left.0)),
        left.2,
      )

  lawful : OfEachScript exchange (λ script. LawfulRun config says quiet script ran.out answer)
  lawful more limits =
      let run = laws.exists says (inputs (read ++ more)).0 in
      let left = written_of more limits _ _ (record { last = run.0; runs = run.1; ends = refl; is_text = refl }) in
      record {
        rest = left.0;
        end = _;
        run = record { last = run.0; runs = run.1; ends = refl; is_text = sym left.1 };
        all = left.2;
        laws = laws.kept says _ run.0 run.1;
      }

  whole_lines : IsErrOf answer RunFault.Read
      → OnWholeLines config says read (λ entries. exchange.written ≡ text quiet entries End.Finished)
  whole_lines failed =
      let w = ran.after_read_fault failed in
      let run = laws.exists says w.whole in
      let end : End = end_of run.0.entries End.Finished in
      let whole : List ℕ = text quiet run.0.entries end in
      let same = append_cancel_left given_old ran.out whole
      (sym ran.is_given ∙ sym (w.all (given_old ++ whole) end (follows (w.whole, End.Finished) run.0 whole end run.1 refl refl))) in
      record {
        inputs = w.whole;
        have_form = w.have_form;
        last = run.0;
        runs = run.1;
        holds = grind (arith, no_last_line);
      }

  -- if no text that follows ends in a halt, the machine's run has none
  goes_on_after : {before : List ℕ} → GoesOnFrom quiet (booting given_old config says) before
      → OnWholeLines config says before (λ entries. list_any is_halt entries ≡ false)
  goes_on_after from =
      let run = laws.exists says from.whole in
      let end = end_of run.0.entries End.Finished in
      let whole = text quiet run.0.entries end in
      record {
        inputs = from.whole;
        have_form = from.have_form;
        last = run.0;
        runs = run.1;
        holds = not_halted _ (from.ends (given_old ++ whole) end (follows (from.whole, End.Finished) run.0 whole end run.1 refl refl));
      }

  reads_no_further : {taken_old taken_new : List ℕ} → taken_new ≡ taken_old ++ read
      → ReadWhileRunning quiet (booting given_old config says) taken_old taken_new → ReadsNoFurther config says read
  reads_no_further {taken_old} taken so_far =
      let same = append_cancel_left taken_old read (so_far.before ++ so_far.piece) (sym taken ∙ so_far.taken) in
      record {
        before = so_far.before;
        piece = so_far.piece;
        parts = same;
        size = so_far.size;
        goes_on = λ some. goes_on_after (so_far.goes_on (λ none. some (same ∙ none)));
      }

  pub promised : {taken_old taken_new : List ℕ} → taken_new ≡ taken_old ++ read
      → ReadWhileRunning quiet (booting given_old config says) taken_old taken_new
      → Exchanged taken_old taken_new is_ended given_old given_new (RunPromise config says quiet answer)
  promised taken so_far = record {
    read = read;
    written = ran.out;
    taken = taken;
    given = ran.is_given;
    holds = record {
      ran = record {
        text = all_written exchange answer lawful;
        front = on_err answer (λ more limits whole end run. let w = written_of more limits whole end run in (w.0, w.1));
        after_read_fault = whole_lines;
      };
      lawful = lawful;
      no_further = reads_no_further taken so_far;
    };
  }

module _ {quiet : Bool} {read : List ℕ} {is_ended : Bool} {start : Moment} {given : List ℕ} where
  -- the last line was written after all pending text
  pub closed : {pending given_later left : List ℕ} {end : End} {answer : Result End RunFault} →
      Ran quiet read is_ended start given (λ end. pending ++ final_line end) (Ok end) → WritesOn given pending given_later left (final_line end) →
      (IsErrOf answer RunFault.Read → ⊥) → IfOk answer (λ answered. (left ≡ []) × (answered ≡ end)) →
      Ran quiet read is_ended start given_later (λ end. []) answer
  closed {left = left} ran w no_read all = record {
    out = ran.out ++ w.out;
    is_given = grind (arith, append_assoc);
    text = λ more limits text ends f.
        grind (arith, append_assoc, ran.text more limits text ends f);
    after_read_fault = grind arith;
  }

  -- a `?` passes on a fault
  pub ran_failed : {left_at : End → List ℕ} {fault : RunFault} {answer : Result End RunFault}
      → IsErr answer → IsErrAnd answer (λ x. x ≡ fault)
      → Ran quiet read is_ended start given left_at (Err fault) → Ran quiet read is_ended start given (λ end. []) answer
  ran_failed is_err is_fault ran = record {
    out = ran.out;
    is_given = ran.is_given;
    text = λ more limits text end f. grind (arith, ran.text more limits text end f);
    after_read_fault = grind arith;
  }
