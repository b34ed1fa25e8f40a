-- Worked examples: what counts as read, and a run on a whole script.
use Rattle.std.proofs.Common.{◌≡◌, ℕ, Bool, true, false, List, ◌∷◌, ◌++◌, codes, length, Result, Ok, Err, refl, sym, ap, subst, append-nil, arith, []}
use Rattle.mote_run.proofs.Common.{Applications, End, Config, Exchange, HasRead, HasRunTo, Input, IsRunText, OnWholeLines, ReadsNoFurther, RunPromise, RunFault, Running, Runs, at_start, inputs, is_halt, list_any, read_line}
use Rattle.kernel_core.specs.Laws.RunLaws.{IsAnsweredAlike}
use Rattle.kernel_core.specs.Laws.RunLaws.{BlocksAreOwn, EventsArriveInOrder, ProcessesAreIsolated, TimersAreKept}

-- two bytes, after one that was read before
two_read : HasRead 2 (116 ∷ []) (116 ∷ 105 ∷ 99 ∷ [])
two_read = record { bytes = 105 ∷ 99 ∷ []; taken = refl; size = refl }

not_one_read : HasRead 1 (116 ∷ []) (116 ∷ 105 ∷ 99 ∷ []) → ⊥
not_one_read read = let size = ap length read.taken in omega (arith, size, read.size)

not_three_read : HasRead 3 (116 ∷ []) (116 ∷ 105 ∷ 99 ∷ []) → ⊥
not_three_read read = let size = ap length read.taken in omega (arith, size, read.size)

no_end_of_another_kind : End.BadLine 1 ≡ End.Finished → ⊥
no_end_of_another_kind is = cc

not_both : (holds : Bool) → holds ≡ true → holds ≡ false → ⊥
not_both holds one other = cc

module _ (config : Config) (says : Applications) where
  abbrev GoesOnAfter : List ℕ → Type 0
  GoesOnAfter read = OnWholeLines config says read (λ entries. list_any is_halt entries ≡ false)

  -- no run continues after a malformed line
  malformed : GoesOnAfter (codes "x\n") → ⊥
  unfolding read_line
  malformed on = no_end_of_another_kind (ap (λ (reading : List Input × End). reading.1) on.have_form)

  -- nor after a halt
  halted : (read : List ℕ) (on : GoesOnAfter read) → list_any is_halt on.last.entries ≡ true → ⊥
  halted read on halts = not_both (list_any is_halt on.last.entries) halts on.holds

  -- a mote that halts at boot reads nothing
  nothing_read_yet : ReadsNoFurther config says []
  nothing_read_yet = record { before = []; piece = []; parts = refl; size = omega arith; goes_on = λ some. absurd (some refl) }

abbrev all_of : List ℕ → List ℕ → Exchange
all_of script out = record { read = script; is_ended = true; written = out }

module _ (config : Config) (says : Applications) (quiet : Bool) (script out : List ℕ) where
  abbrev HasRunSo : Result End RunFault → Type 0
  HasRunSo answer = HasRunTo config says quiet RunFault.Read answer (all_of script out)

  -- if the text of its run was written, that is a run
  whole_run : (end : End) → IsRunText config says quiet script out end → HasRunSo (Ok end)
  whole_run end run = record {
    text = λ more none.
        let all : script ++ more ≡ script = rw (none refl) (append-nil script) in
        subst (λ (bytes : List ℕ). IsRunText config says quiet bytes out end) (sym all) run;
    front = tt;
    after_read_fault = λ failed. absurd (cc);
  }

  -- and only that text is
  text_of_run : (end : End) → HasRunSo (Ok end) → IsRunText config says quiet script out end
  text_of_run end run =
      subst (λ (bytes : List ℕ). IsRunText config says quiet bytes out end) (append-nil script) (run.text [] (λ ended. refl))

  -- if a device fails after the end of a script, the output is a prefix of its text
  front_of_text : (whole : List ℕ) (end : End) (fault : RunFault)
      → HasRunSo (Err fault) → IsRunText config says quiet script whole end →
      (rest : List ℕ) × (whole ≡ out ++ rest)
  front_of_text whole end fault run text =
      run.front [] (λ ended. refl) whole end
      (subst (λ (bytes : List ℕ). IsRunText config says quiet bytes whole end) (sym (append-nil script)) text)

  -- if the promise was kept, the machine's run on the script keeps each law
  keeps_each_law : (end : End)
      → RunPromise config says quiet (Ok end) (all_of script out) →
      (last : Running) × Runs says (at_start config) (inputs (script ++ [])).0 last × BlocksAreOwn last.entries
      × EventsArriveInOrder config.apps last.entries ×
      TimersAreKept config.apps last.entries × ProcessesAreIsolated config.quota config.apps last.entries
      × IsAnsweredAlike config.quota config.apps last.entries
  keeps_each_law end promise =
      let lawful = promise.lawful [] (λ ended. refl) in (
        lawful.run.last,
        lawful.run.runs,
        lawful.laws.memory,
        lawful.laws.events,
        lawful.laws.timers,
        lawful.laws.isolation,
        lawful.laws.alike,
      )
