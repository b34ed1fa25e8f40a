use Rattle.std.proofs.Common.{◌≡◌, ◌∙◌, ap, inl, refl}
use denote.Param.Object.{read_made}
use Rattle.mote_shell.proofs.Boxed.{all_boxed, no_memory, nothing_named, one_more_boxed, outcome_of_words, run_of_words}
use Rattle.mote_types.specs.Applications.{Says}
use Rattle.template_app.proofs.runner.BoxingRunnerApplication.run_words.Goals as goal
use Rattle.template_app.proofs.runner.BoxingRunnerApplication.run_words.OwnLists.{own-1}
use Rattle.template_app.specs.contracts.application.ApplicationApp.TheImpl.{says-value}

pub loop-application-preserved : goal.loop-application-preserved
loop-application-preserved g c =
    let boxed = c.into_dyn_box.result in
    let told : (own-1.entry boxed.vtable).1.says boxed.value ≡ says-value.it c.in-Some.application =
    read_made own-1 (own-1.entry (inl tt)) (inl tt) refl Says
    (λ object value. object.1.says value) boxed.vtable boxed.value c.in_ok-new.field-0.value c.into_dyn_box.ensures.1
    ∙ ap says-value.it c.in_ok-new.ensures.ok in
    one_more_boxed _ _ _ _ boxed _ _ _ _ c.in-Some.application c.loop-application.invariant c.in_ok-push.ensures.items told
    c.in-Some.ensures.steps

pub returns-in_err-named-clause-run : goal.returns-in_err-named-clause-run
returns-in_err-named-clause-run g c = λ _ _. nothing_named _ _ _ _ _ c.in_err-named.ensures.refused c.from_residual.ensures.1

pub returns-in_err-new-clause-run : goal.returns-in_err-new-clause-run
returns-in_err-new-clause-run g c = λ _ _. no_memory _ _ _ _ c.from_residual-in_err-new.ensures.1

pub returns-in_err-push-clause-run : goal.returns-in_err-push-clause-run
returns-in_err-push-clause-run g c = λ _ _. no_memory _ _ _ _ c.from_residual-in_err-push.ensures.1

pub returns-clause-run : goal.returns-clause-run
returns-clause-run g c = λ source_named sink_named.
    let boxes = all_boxed _ _ _ _ _ _ _ c.loop-application.invariant c.in-None.ensures.steps.0 c.as_mut_slice.ensures.value in
    run_of_words _ _ _ _ _ _ c.in_ok-named.ensures.named boxes (c.run_boxed.ensures.run source_named sink_named)

pub returns-clause-outcome : goal.returns-clause-outcome
returns-clause-outcome g c =
    let boxes = all_boxed _ _ _ _ _ _ _ c.loop-application.invariant c.in-None.ensures.steps.0 c.as_mut_slice.ensures.value in
    outcome_of_words _ _ _ _ _ _ c.in_ok-named.ensures.taken c.in_ok-named.ensures.named boxes c.run_boxed.ensures.answer
