use Rattle.std.proofs.Common.{◌≡◌, ◌∙◌, ap, inl, inr, refl, rules, sym}
use denote.Param.Object.{Made, read_made}
use Rattle.mote_shell.proofs.Boxed.{all_boxed, no_memory, nothing_named, one_more_boxed, outcome_of_words, run_of_words}
use Rattle.mote_types.specs.Applications.{Says}
use Rattle.mote.proofs.runner.BoxingRunnerBundled.run_words.Goals as goal
use Rattle.mote.proofs.runner.BoxingRunnerBundled.run_words.Goals.{in-Blink+in_ok-new-in-Blink, in-Echo+in_ok-new-in-Echo, in-Relay+in_ok-new-in-Relay, in-Ping+in_ok-new-in-Ping, in_default+in_ok-new-in_default}
use Rattle.mote.proofs.runner.BoxingRunnerBundled.run_words.OwnLists.{own-1}
use Rattle.mote_apps.specs.Bundled.{bundled_says}
use Rattle.mote_apps.specs.declared.bundled.Bundled.{Bundled}

-- what a box of this application says
says_as : (at i : own-1.I) (y : (own-1.entry i).0.Denot) (x : (own-1.entry at).0.Denot)
    → Made (λ j. (own-1.entry j).0.coded.code) (own-1.entry at).0.coded.code at i y x → (own-1.entry i).1.says y ≡ (own-1.entry at).1.says x
says_as at i y x made = read_made own-1 (own-1.entry at) at refl Says (λ object value. object.1.says value) i y x made

pub loop-application-preserved : goal.loop-application-preserved
loop-application-preserved g c =
    let boxed = c.match-application.boxed in
    let same : (own-1.entry boxed.vtable).1.says boxed.value ≡ bundled_says c.in-Some.application =
    elim c.match-application.branch [
      | in-Blink+in_ok-new-in-Blink w ↦
          ap (λ box. (own-1.entry box.vtable).1.says box.value) w.boxed-is ∙ (says_as (inl tt) _ _ w.in_ok-new-in-Blink.field-0.value w.into_dyn_box.ensures.1
          ∙ (ap (λ app. bundled_says (Bundled.Blink app)) w.in_ok-new-in-Blink.ensures.ok ∙ ap bundled_says (sym w.in-Blink.is)))
      | in-Echo+in_ok-new-in-Echo w ↦
          ap (λ box. (own-1.entry box.vtable).1.says box.value) w.boxed-is ∙ (says_as (inr (inl tt)) _ _ w.in_ok-new-in-Echo.field-0.value w.into_dyn_box-in_ok-new-in-Echo.ensures.1
          ∙ (ap (λ app. bundled_says (Bundled.Echo app)) w.in_ok-new-in-Echo.ensures.ok ∙ ap bundled_says (sym w.in-Echo.is)))
      | in-Relay+in_ok-new-in-Relay w ↦
          ap (λ box. (own-1.entry box.vtable).1.says box.value) w.boxed-is ∙ (says_as (inr (inr (inl tt))) _ _ w.in_ok-new-in-Relay.field-0.value w.into_dyn_box-in_ok-new-in-Relay.ensures.1
          ∙ (ap (λ app. bundled_says (Bundled.Relay app)) w.in_ok-new-in-Relay.ensures.ok ∙ ap bundled_says (sym w.in-Relay.is)))
      | in-Ping+in_ok-new-in-Ping w ↦
          ap (λ box. (own-1.entry box.vtable).1.says box.value) w.boxed-is ∙ (says_as (inr (inr (inr (inl tt)))) _ _ w.in_ok-new-in-Ping.field-0.value w.into_dyn_box-in_ok-new-in-Ping.ensures.1
          ∙ (ap (λ app. bundled_says (Bundled.Ping app)) w.in_ok-new-in-Ping.ensures.ok ∙ ap bundled_says (sym w.in-Ping.is)))
      | in_default+in_ok-new-in_default w ↦
          ap (λ box. (own-1.entry box.vtable).1.says box.value) w.boxed-is ∙ (says_as (inr (inr (inr (inr (inl tt))))) _ _ w.in_ok-new-in_default.field-0.value
          w.into_dyn_box-in_ok-new-in_default.ensures.1 ∙ search rules)
    ] in
    one_more_boxed _ _ _ _ boxed _ _ _ _ c.in-Some.application c.loop-application.invariant c.in_ok-push.ensures.items same
    c.in-Some.ensures.steps

pub returns-in_err-named-clause-run : goal.returns-in_err-named-clause-run
returns-in_err-named-clause-run g c = λ _ _. nothing_named _ _ _ _ _ c.in_err-named.ensures.refused c.from_residual.ensures.1

pub returns-in_err-new-in-Blink-clause-run : goal.returns-in_err-new-in-Blink-clause-run
returns-in_err-new-in-Blink-clause-run g c = λ _ _. no_memory _ _ _ _ c.from_residual-in_err-new-in-Blink.ensures.1

pub returns-in_err-new-in-Echo-clause-run : goal.returns-in_err-new-in-Echo-clause-run
returns-in_err-new-in-Echo-clause-run g c = λ _ _. no_memory _ _ _ _ c.from_residual-in_err-new-in-Echo.ensures.1

pub returns-in_err-new-in-Relay-clause-run : goal.returns-in_err-new-in-Relay-clause-run
returns-in_err-new-in-Relay-clause-run g c = λ _ _. no_memory _ _ _ _ c.from_residual-in_err-new-in-Relay.ensures.1

pub returns-in_err-new-in-Ping-clause-run : goal.returns-in_err-new-in-Ping-clause-run
returns-in_err-new-in-Ping-clause-run g c = λ _ _. no_memory _ _ _ _ c.from_residual-in_err-new-in-Ping.ensures.1

pub returns-in_err-new-in_default-clause-run : goal.returns-in_err-new-in_default-clause-run
returns-in_err-new-in_default-clause-run g c = λ _ _. no_memory _ _ _ _ c.from_residual-in_err-new-in_default.ensures.1

pub returns-in_err-push-clause-run : goal.returns-in_err-push-clause-run
returns-in_err-push-clause-run g c = λ _ _. no_memory _ _ _ _ c.from_residual-in_err-push.ensures.1

pub returns-clause-run : goal.returns-clause-run
returns-clause-run g c = λ source_named sink_named.
    let boxes = all_boxed _ _ _ _ _ _ _ c.loop-application.invariant c.in-None.ensures.steps.0 c.as_mut_slice.ensures.value in
    run_of_words _ _ _ _ _ _ c.in_ok-named.ensures.named boxes (c.run_boxed.ensures.run source_named sink_named)

pub returns-clause-outcome : goal.returns-clause-outcome
returns-clause-outcome g c =
    let boxes = all_boxed _ _ _ _ _ _ _ c.loop-application.invariant c.in-None.ensures.steps.0 c.as_mut_slice.ensures.value in
    outcome_of_words _ _ _ _ _ _ c.in_ok-named.ensures.taken c.in_ok-named.ensures.named boxes c.run_boxed.ensures.answer
