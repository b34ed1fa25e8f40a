-- Runs are determined: from one start there is one run.
use Rattle.std.proofs.Common.{◌≡◌, ◌+◌, ℕ, zero, suc, true, List, [], ◌∷◌, refl, sym, zero-add, suc-add, arith}
use Rattle.mote_types.specs.declared.entry.Input.{Input}
use Rattle.kernel_core.specs.Run.{Runs, ComesToRest}
use Rattle.kernel_core.proofs.Common.{decide, Applications, Running, after_step, after_steps, is_still}
use Rattle.kernel_core.proofs.Still.{still_after_steps}

module _ (says : Applications) where
  pub steps_plus : (n k : ℕ) (r : Running) → after_steps says (n + k) r ≡ after_steps says k (after_steps says n r)
  steps_plus zero k r = rw zero-add refl
  steps_plus (suc n) k r = rw suc-add (steps_plus n k (after_step says r))

  -- if nothing more happens, a run is at rest
  pub still_rest : (a w : Running) → is_still a.machine ≡ true → ComesToRest says a w → w ≡ a
  still_rest = grind (decide, still_after_steps)

  module _ (a b : Running) where
    -- each later step reaches the same still run
    pub rest_from : (w : Running) (n : ℕ) → after_steps says n a ≡ b → ComesToRest says a w → ComesToRest says b w
    rest_from w n e (k, f, still) =
        let both : n + k ≡ k + n = omega arith in
        (k, rw (← e, ← steps_plus n k a, both, steps_plus k n a, f) (still_after_steps says n w still), still)

    pub run_from : (w : Running) (later : List Input) (n : ℕ) → after_steps says n a ≡ b → Runs says a later w
        → Runs says b later w
    run_from w [] n e r = rest_from w n e r
    run_from w (input ∷ later) n e (rested, rests, stop, go) = (rested, rest_from rested n e rests, stop, go)

    pub rest_one : (c : Running) → ComesToRest says a b → ComesToRest says a c → b ≡ c
    rest_one c (n, e, still) r = sym (still_rest b c still (rest_from c n e r))

  pub runs_one : (inputs : List Input) (a b c : Running) → Runs says a inputs b → Runs says a inputs c → b ≡ c
  runs_one [] a b c x y = rest_one a b c x y
  runs_one (input ∷ later) a b c (m, e, stop, go) (k, h, stop', go') =
      grind (decide, runs_one later, rest_one a m k e h)
