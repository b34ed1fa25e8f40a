use Rattle.std.proofs.Common.{append_assoc, refl, sym, arith, Some, None, []}
use Rattle.mote_run.proofs.Common.{End}
use Rattle.mote_run.proofs.GivenBytes.{input_can_be_fed}
use Rattle.mote_run.proofs.LoopInvariant.{failed, finished, last_line}
use Rattle.mote_run.proofs.Pieces.{not_read}
use Rattle.mote_run.proofs.Ways.{went_on}
use Rattle.mote_run.proofs.take_script.take_end.Goals as goal

pub feed-requires-clause-bytes : goal.feed-requires-clause-bytes
feed-requires-clause-bytes g c = grind (arith, input_can_be_fed)

pub feed-requires-clause-clock : goal.feed-requires-clause-clock
feed-requires-clause-clock g c =
    grind (arith, (input_can_be_fed _ _ (sym (rw c.in-Ok-true.field-0-test at c.in-Ok-true.ensures.says))).1)

pub returns-in-Ok-false-clause-ran : goal.returns-in-Ok-false-clause-ran
returns-in-Ok-false-clause-ran g c = λ named read earlier start so_far went.
    finished went End.Finished c.requires.still (λ more limits. (
      ([], End.Finished),
      last_line so_far c.requires.ready.endless c.requires.ready.few c.requires.used_up (Some None)
          (rw c.in-Ok-false.field-0-test at c.in-Ok-false.ensures.says) more (limits refl),
      λ _. refl,
    )) (rw c.requires.running refl)

pub returns-in_ok-feed-in-Ok-true-clause-ran : goal.returns-in_ok-feed-in-Ok-true-clause-ran
returns-in_ok-feed-in-Ok-true-clause-ran g c = λ named read earlier start so_far went.
    finished (went_on went (c.in_ok-feed-in-Ok-true.ensures.goes named)) End.Finished c.in_ok-feed-in-Ok-true.ensures.still
    (λ more limits. (
      ([], End.Finished),
      rw append_assoc (last_line so_far c.requires.ready.endless c.requires.ready.few c.requires.used_up _
          (rw c.in-Ok-true.field-0-test at c.in-Ok-true.ensures.says) more (limits refl)),
      λ _. refl,
    )) c.end_of.ensures

pub returns-in_err-feed-in-Ok-true-clause-ran : goal.returns-in_err-feed-in-Ok-true-clause-ran
returns-in_err-feed-in-Ok-true-clause-ran g c = λ named read earlier start so_far went.
    failed (went_on went (c.in_err-feed-in-Ok-true.ensures.goes named).3) c.from_residual.ensures.0
    (λ more limits. (
      ([], End.Finished),
      rw append_assoc (last_line so_far c.requires.ready.endless c.requires.ready.few c.requires.used_up _
          (rw c.in-Ok-true.field-0-test at c.in-Ok-true.ensures.says) more (limits refl)),
    ))
    (not_read c.from_residual.result c.from_residual.ensures.1)

pub returns-in-Err-clause-ran : goal.returns-in-Err-clause-ran
returns-in-Err-clause-ran g c = λ named read earlier start so_far went.
    finished went (End.BadLine _) c.requires.still (λ more limits. (
      ([], End.BadLine _),
      last_line so_far c.requires.ready.endless c.requires.ready.few c.requires.used_up None c.in-Err.ensures.says more (limits refl),
      λ _. refl,
    )) (rw (c.requires.running, c.end.ensures.same_number) refl)
