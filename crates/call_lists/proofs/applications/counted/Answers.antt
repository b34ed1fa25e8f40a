use Rattle.std.proofs.Common.{◌∙◌, inl, inr, ap, sym, arith}
use Rattle.std.proofs.lemmas.Grind.{common_steps}
use Rattle.mote_text.proofs.Ticks.{decimal_of_read}
use Rattle.call_lists.specs.Code.Words.{behind}
use Rattle.call_lists.proofs.Only.{misnumbered, numbered_only, once_only}
use Rattle.call_lists.proofs.applications.counted.Goals as goal

pub returns-in_ok-number_of-in-Some-clause-counted : goal.returns-in_ok-number_of-in-Some-clause-counted
returns-in_ok-number_of-in-Some-clause-counted c =
    inr (omega (arith, c.in_ok-number_of-in-Some.ensures.bounds), grind (arith, common_steps, decimal_of_read))

pub returns-then-not-begins_with_digit-clause-only : goal.returns-then-not-begins_with_digit-clause-only
returns-then-not-begins_with_digit-clause-only c =
    λ made possible are few. once_only c.args.text.now made possible few (inl (sym c.begins_with_digit.ensures
    ∙ c.if-not-begins_with_digit.true)) are

pub returns-in_err-number_of-in-Some-clause-only : goal.returns-in_err-number_of-in-Some-clause-only
returns-in_err-number_of-in-Some-clause-only c =
    λ made possible are few. absurd (misnumbered c.args.text.now made possible few c.parted.result.0.now _
    (sym c.begins_with_digit.ensures ∙ c.if-not-begins_with_digit.false) c.parted.ensures.word
    c.in_err-number_of-in-Some.ensures.refused are)

pub returns-in_ok-number_of-in-Some-clause-only : goal.returns-in_ok-number_of-in-Some-clause-only
returns-in_ok-number_of-in-Some-clause-only c =
    λ made possible are few.
    numbered_only c.args.text.now made possible few c.parted.result.0.now c.in-Some.rest.now c.in_ok-number_of-in-Some.field-0
    (sym c.begins_with_digit.ensures ∙ c.if-not-begins_with_digit.false) c.parted.ensures.word
    (sym (ap behind c.in-Some.is) ∙ c.parted.ensures.left) c.in_ok-number_of-in-Some.ensures.number are

pub returns-in-None-clause-only : goal.returns-in-None-clause-only
returns-in-None-clause-only c =
    λ made possible are few. once_only c.args.text.now made possible few (inr (sym c.parted.ensures.left ∙ ap behind c.in-None.is)) are
