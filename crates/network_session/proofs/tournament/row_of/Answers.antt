use Rattle.std.proofs.Common.{◌≡◌, ◌∙◌, subst, sym, refl, false, List, Result, Ok, Err, is_ok, if◌then◌else◌}
use Rattle.std.specs.Result.{is_err}
use Rattle.network_session.specs.declared.alarm.Alarm.{Alarm}
use Rattle.network_session.specs.Code.Tournaments.{IsRow}
use Rattle.network_session.proofs.Rows.{row_more}
use Rattle.network_session.proofs.tournament.row_of.Goals as goal

-- what succeeded made the longer list
pushed : {A E : Type 0} (r : Result A E) (xs ys : List Alarm) → is_err r ≡ false → (if is_ok r then xs else ys) ≡ xs
pushed (Ok x) xs ys e = refl
pushed (Err e) xs ys h = absurd (cc)

pub loop-at-preserved : goal.loop-at-preserved
loop-at-preserved c =
    subst (IsRow c.args.moments.now _)
    (sym (c.push.ensures.items ∙ pushed c.push.result _ _ (sym c.is_err.ensures.value ∙ c.if-is_err.false)))
    (row_more c.args.moments.now c.loop-at.at c.loop-at.nodes.items c.player.result c.loop-at.invariant c.player.ensures)
