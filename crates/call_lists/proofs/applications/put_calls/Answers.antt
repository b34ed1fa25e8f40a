use Rattle.std.proofs.Common.{◌++◌, arith, length, refl, rules, subst, sym}
use Rattle.call_lists.specs.Calls.{AreOfParts}
use Rattle.call_lists.specs.Code.Lists.{AreOfText, HasCalls, behind_comma}
use Rattle.call_lists.proofs.Filling.{put_more}
use Rattle.call_lists.proofs.Parting.{none_left, one_part_less}
use Rattle.call_lists.proofs.Only.{first_part}
use Rattle.call_lists.proofs.applications.put_calls.Goals as goal

pub loop-left-init : goal.loop-left-init
loop-left-init c = grind arith

pub loop-left-preserved : goal.loop-left-preserved
loop-left-preserved c =
    let put = c.in_ok-place.ensures.put in
    let before = c.loop-left.invariant in (
      before.0 ++ put.made,
      put_more before.0 put.made _ _ _ _ _ _ before.1 put.put,
      one_part_less AreOfParts (AreOfText c.args.text.now) c.cut_at_comma.result.0.now c.cut_at_comma.result.1 before.0 put.made
          c.in-Some.is c.cut_at_comma.ensures.parts
          (λ parts more are. (put.made, more, refl, put.are_made, are)) before.2,
      λ has.
          let first = first_part c.cut_at_comma.result.0.now c.cut_at_comma.result.1 c.loop-left.place _ c.in-Some.is
          c.cut_at_comma.ensures.parts c.cut_at_comma.ensures.first c.requires (before.3 has) in
          subst (λ end. HasCalls (behind_comma c.cut_at_comma.result.1) end (length c.args.calls.now))
          (sym (c.in_ok-place.ensures.only first.0 first.1 first.2 (omega arith))) first.4,
    )

pub returns-clause-put : goal.returns-clause-put
returns-clause-put c =
    let put = c.loop-left.invariant in
    (put.0, c.loop-left.place, none_left AreOfParts (AreOfText c.args.text.now) put.0 (search rules) refl put.2, put.1)

pub returns-in_err-place-clause-only : goal.returns-in_err-place-clause-only
returns-in_err-place-clause-only c = λ has.
    let first = first_part c.cut_at_comma.result.0.now c.cut_at_comma.result.1 c.loop-left.place _ c.in-Some.is
    c.cut_at_comma.ensures.parts c.cut_at_comma.ensures.first c.requires (c.loop-left.invariant.3 has) in
    absurd (c.in_err-place.ensures.only first.0 first.1 first.2 (omega arith))
