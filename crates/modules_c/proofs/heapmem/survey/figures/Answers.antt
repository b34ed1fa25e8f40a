use Rattle.modules_c.proofs.HeapmemSums.{taken_is}
use Rattle.modules_c.proofs.heapmem.survey.figures.Goals as goal

pub returns-clause-allocated : goal.returns-clause-allocated
returns-clause-allocated c bytes size =
    taken_is c.args.rows.now bytes c.args.capacity c.left_over-available.result c.in-Some.ensures.table size
    (c.left_over-available.ensures.gaps bytes size)
