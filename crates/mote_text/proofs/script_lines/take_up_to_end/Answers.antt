use Rattle.std.proofs.Common.{◌≡◌, ◌++◌, take, refl, arith}
use Rattle.std.proofs.lemmas.Option.{slice_get_within}
use Rattle.mote_text.proofs.Common.{common_steps, length-take}
use Rattle.mote_text.proofs.LineEnds.{no_end_append, no_end_before, goes_on_at}
use Rattle.mote_text.proofs.script_lines.take_up_to_end.Goals as goal

pub returns-in-Some-clause-endless : goal.returns-in-Some-clause-endless
returns-in-Some-clause-endless c = grind (arith, no_end_append, no_end_before)

pub returns-then-kept-near-clause-endless : goal.returns-then-kept-near-clause-endless
returns-then-kept-near-clause-endless c = grind (arith, no_end_append, no_end_before)

pub returns-then-kept-near-clause-too_wide : goal.returns-then-kept-near-clause-too_wide
returns-then-kept-near-clause-too_wide c =
    let e : c.try_extend_from_slice-2.new.self.items ≡ c.args.bytes.now.items ++ take c.min-kept.result
    (take c.min.result c.args.piece.now) =
    grind (arith, common_steps) in (
      λ _. (
        rw e (grind (arith, common_steps)),
        grind (arith, goes_on_at, length-take),
      ),
      λ _. refl,
    )

pub returns-else-kept-near-clause-endless : goal.returns-else-kept-near-clause-endless
returns-else-kept-near-clause-endless c = grind (arith, no_end_append, no_end_before)

pub returns-else-kept-near-clause-too_wide : goal.returns-else-kept-near-clause-too_wide
returns-else-kept-near-clause-too_wide c = (
  λ e. cc,
  λ h.
      absurd (omega (arith, length-take c.min.result c.args.piece.now, slice_get_within c.args.piece.now c.min-kept.result h.1.0 h.1.1)),
)
