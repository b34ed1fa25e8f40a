use Rattle.heap_core.proofs.Lemmas.{◌≢◌, ap, arith, front_gap, over_live, over_gap, gap_fits, around}
use Rattle.heap_core.proofs.region.Region.link_after.Goals as goal

pub overflow_add-following : goal.overflow_add-following
overflow_add-following c = grind arith

pub returns-then-following-end : goal.returns-then-following-end
returns-then-following-end c = grind (arith, over_live, around)

pub chunk_at-requires-clause-inside : goal.chunk_at-requires-clause-inside
chunk_at-requires-clause-inside c =
    let a = around c.requires.gaps.chunks c.requires.live.stands in let some : front_gap a.behind ≢ 0 = grind arith in
    omega (arith, gap_fits a c.requires.gaps.linked c.requires.live.live some, c.args.self.now.inside, ap front_gap a.behind_is)

pub returns : goal.returns
returns c =
    grind (arith, over_gap, around c.requires.gaps.chunks c.requires.live.stands)
