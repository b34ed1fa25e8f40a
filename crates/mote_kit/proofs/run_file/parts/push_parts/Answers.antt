use Rattle.std.proofs.Common.{[], refl, sym, subst}
use Rattle.std.proofs.lemmas.List.Elements.{All-nil, All-cons, All-append}
use Rattle.std.specs.List.{All}
use Rattle.mote_kit.specs.Parts.{IsPartOf}
use Rattle.mote_kit.proofs.run_file.parts.push_parts.Goals as goal

pub returns-in_err-push : goal.returns-in_err-push
returns-in_err-push c = λ whole above.
    subst (All (IsPartOf c.args.path.now whole)) (sym c.in_err-push.ensures.items) (c.loop-part.invariant whole above)

pub loop-part-preserved : goal.loop-part-preserved
loop-part-preserved c = λ whole above.
    let is_part = IsPartOf c.args.path.now whole in
    subst (All is_part) (sym c.in_ok-push.ensures.items) (All-append is_part _ _ (c.loop-part.invariant whole above)
    (All-cons is_part _ [] (refl, λ none. absurd (cc)) (All-nil is_part)))
