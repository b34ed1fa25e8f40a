use Rattle.memb_core.proofs.Lemmas.{false, take, ap, ◌∙◌, arith, take-replicate, pool_of, all_unused}
use Rattle.memb_core.proofs.pool.Pool.new.Goals as goal

pub returns-clause-unused : goal.returns-clause-unused
unfolding pool_of
returns-clause-unused c bytes =
    grind (
      arith,
      all_unused,
      c.truncate.ensures.items ∙ ap
          (take c.args.blocks) c.from-used.ensures.0 ∙ take-replicate c.args.blocks 16 false c.requires.few,
    )
