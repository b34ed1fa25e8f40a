use Rattle.std.proofs.Common.{arith, refl, inl, ◌≡◌, ◌∙◌, ap, sym, length, []}
use Rattle.std.specs.Vec.Iter.{into_iter_items}
use Rattle.mote_types.specs.Applications.{Says}
use Rattle.call_lists.specs.Applications.{application_says}
use Rattle.std.proofs.lemmas.List.{nil_from_length}
use denote.Param.Object.{read_made}
use Rattle.mote_run.proofs.Boxed.{all_boxed, one_more_boxed}
use Rattle.library_core.proofs.running.run_applications.OwnLists.{own-1}
use Rattle.library_core.proofs.running.run_applications.Goals as goal

pub loop-application-preserved : goal.loop-application-preserved
loop-application-preserved c =
    let before = c.loop-application.invariant in
    let application = c.in-Some.application in
    let boxed = c.into_dyn_box.result in
    let told : (own-1.entry boxed.vtable).1.says boxed.value ≡ application_says application =
    read_made own-1 (own-1.entry (inl tt)) (inl tt) refl Says
    (λ object value. object.1.says value) boxed.vtable boxed.value c.in_ok-new.field-0.value c.into_dyn_box.ensures.1
    ∙ ap application_says c.in_ok-new.ensures.ok in
    let steps = c.in-Some.ensures.steps in (
      one_more_boxed _ application_says _ _ boxed _ _ _ _ application before.0 c.in_ok-push.ensures.items told steps.0,
      let was = before.1 in
          let gone = steps.1 in
          let short = ap length steps.0 in
          omega arith,
    )

pub returns-in-Ok-clause-text : goal.returns-in-Ok-clause-text
returns-in-Ok-clause-text c =
    let before = c.loop-application.invariant in
    let empty : into_iter_items c.loop-application.application-iterator ≡ [] =
    nil_from_length _ (sym before.1 ∙ c.in-None.ensures.steps.0) in
    let given = c.into_iter-application-iterator.ensures.into_iter_gives.0 in
    let boxes = all_boxed _ application_says _ _ c.loop-application.yielded _ c.args.applications.items
    (before.0.0, before.0.1 ∙ given) empty
    c.as_mut_slice.ensures.value in
    rw (boxes.same, boxes.as_many) at c.in-Ok.ensures.text
