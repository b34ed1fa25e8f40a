use Rattle.std.proofs.Common.{refl, rules, sym, subst}
use Rattle.std.proofs.lemmas.List.{append-nil}
use Rattle.call_lists.specs.RowTexts.{IsRow}
use Rattle.call_lists.proofs.RowTexts.{bare_row, full_row}
use Rattle.call_lists.proofs.rows.reading.row_of.Goals as goal

pub returns-in-Some : goal.returns-in-Some
returns-in-Some c =
    subst (IsRow c.args.text.now) (sym c.new-in-Some.ensures)
    (bare_row _ c.in-Some.stimulus.now _ (search rules) c.in_ok-trigger_of.ensures c.new.ensures.items refl refl)

pub returns-in_ok-steps_of-in-Some-strip_suffix : goal.returns-in_ok-steps_of-in-Some-strip_suffix
returns-in_ok-steps_of-in-Some-strip_suffix c =
    subst (IsRow c.args.text.now) (sym c.new-in-Some-strip_suffix.ensures)
    (full_row _ c.in-Some-cut_at_colon.stimulus.now _ c.in-Some-strip_suffix.calls.now _ c.in-Some-cut_at_colon.ensures (search rules)
    c.in_ok-trigger.ensures c.in_ok-steps_of-in-Some-strip_suffix.ensures refl)

pub returns-in_ok-steps_of-in-None : goal.returns-in_ok-steps_of-in-None
returns-in_ok-steps_of-in-None c =
    subst (IsRow c.args.text.now) (sym c.new-in-None.ensures)
    (full_row _ c.in-Some-cut_at_colon.stimulus.now _ c.in-Some-cut_at_colon.calls.now _ c.in-Some-cut_at_colon.ensures
    (sym (append-nil _)) c.in_ok-trigger.ensures c.in_ok-steps_of-in-None.ensures refl)
