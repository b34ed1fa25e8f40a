use Rattle.std.proofs.Common.{◌∷◌, ◌∙◌, sym, subst}
use Rattle.mote_kit.specs.Gaps.{Fits, gap, texts}
use Rattle.mote_kit.proofs.Fitting.{equals, ends, fits_begun, fits_front, fits_whole, fits_last, fits_part, fits_no_part, shorter}
use Rattle.mote_kit.proofs.gaps.fits.Goals as goal

pub returns-in_default : goal.returns-in_default
returns-in_default c =
    let same = equals c.args.wanted.now c.args.found.now in
    let whole = fits_whole (texts c.args.wanted.now) c.in_default.ensures (texts c.args.found.now) in
    ((λ yes. whole.0 (same.0 (sym c.eq.ensures ∙ yes))), (λ fits. c.eq.ensures ∙ same.1 (whole.1 fits)))

pub returns-in_default-rest_of : goal.returns-in_default-rest_of
returns-in_default-rest_of c = (
  (λ no. absurd (cc)),
  (λ fits. let after = fits_front (texts c.in-Some.front.now) (gap ∷ texts c.in-Some.wanted.now) (texts c.args.found.now) c.in-Some.ensures.0
      (subst (λ l. Fits l (texts c.args.found.now)) c.in-Some.ensures.1 fits) in absurd (c.in_default-rest_of.ensures after.0 after.1)),
)

pub loop-part-init : goal.loop-part-init
loop-part-init c =
    rw (c.in-Some.ensures.1, c.in-Some-rest_of.ensures)
    (fits_begun (texts c.in-Some.front.now) c.in-Some.ensures.0 (gap ∷ texts c.in-Some.wanted.now) (texts c.in-Some-rest_of.found.now))

pub returns-in_default-rest_after : goal.returns-in_default-rest_after
returns-in_default-rest_after c =
    let step = fits_no_part (texts c.in-Some-around_gap.part.now) (texts c.in-Some-around_gap.after.now) (texts c.loop-part.found.now)
    c.in-Some-around_gap.ensures.0 c.in_default-rest_after.ensures in (
      (λ no. absurd (cc)),
      (λ fits. absurd (step
          (subst (λ l. Fits (gap ∷ l) (texts c.loop-part.found.now)) c.in-Some-around_gap.ensures.1 (c.loop-part.invariant.0 fits)))),
    )

pub loop-part-smaller : goal.loop-part-smaller
loop-part-smaller c = shorter c.loop-part.wanted.now c.in-Some-around_gap.part.now c.in-Some-around_gap.after.now c.in-Some-around_gap.ensures.1

pub loop-part-preserved : goal.loop-part-preserved
loop-part-preserved c =
    let step = fits_part (texts c.in-Some-around_gap.part.now) (texts c.in-Some-around_gap.after.now) (texts c.loop-part.found.now)
    c.in-Some-around_gap.ensures.0 (texts c.in-Some-rest_after.rest.now) c.in-Some-rest_after.ensures in (
      (λ fits. step.0 (subst (λ l. Fits (gap ∷ l) (texts c.loop-part.found.now)) c.in-Some-around_gap.ensures.1 (c.loop-part.invariant.0 fits))),
      (λ fits. c.loop-part.invariant.1 (subst (λ l. Fits (gap ∷ l) (texts c.loop-part.found.now)) (sym c.in-Some-around_gap.ensures.1) (step.1 fits))),
    )

pub returns : goal.returns
returns c =
    let last = fits_last (texts c.loop-part.wanted.now) c.in_default-around_gap.ensures (texts c.loop-part.found.now) in
    let end = ends c.loop-part.found.now c.loop-part.wanted.now c.ends_with.result c.ends_with.ensures.value in
    ((λ yes. c.loop-part.invariant.1 (last.0 (end.0 yes))), (λ fits. let there = last.1 (c.loop-part.invariant.0 fits) in end.1 there.0 there.1))
