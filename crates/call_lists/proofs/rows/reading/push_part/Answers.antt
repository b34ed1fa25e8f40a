use Rattle.std.proofs.Common.{◌≡◌, arith}
use Rattle.call_lists.proofs.RowParts.{copies_more}
use Rattle.call_lists.proofs.rows.reading.push_part.Goals as goal

pub loop-preserved : goal.loop-preserved
loop-preserved c = grind (arith, copies_more)

pub returns : goal.returns
returns c =
    let all : c.loop.counter ≡ c.in_ok-count.count = omega arith in
    grind arith
