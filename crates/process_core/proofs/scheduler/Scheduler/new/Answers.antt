use Rattle.process_core.proofs.Lemmas.{◌-◌, length, refl, ◌∙◌, ap, arith, range_with_len, range_more, order_at_boot}
use Rattle.std.proofs.lemmas.List.FromFn.{length-range_with_len}
use Rattle.process_core.proofs.scheduler.Scheduler.new.Goals as goal

pub push-requires : goal.push-requires
push-requires c =
    omega (arith, ap length c.loop-number.invariant.so_far, length-range_with_len 4 (c.loop-number.number - 4))

pub loop-number-preserved : goal.loop-number-preserved
loop-number-preserved c =
    record {
      so_far = grind (arith, range_more 4 (c.loop-number.number - 4));
      from =
          omega arith;
    }

pub invariant_of-result : goal.invariant_of-result
invariant_of-result c =
    order_at_boot _ (omega arith) (c.over.ensures ∙ c.loop-number.invariant.so_far ∙ ap (range_with_len 4) (omega arith)) (grind arith)
    (grind arith) refl
    (grind arith) refl refl (grind arith)
