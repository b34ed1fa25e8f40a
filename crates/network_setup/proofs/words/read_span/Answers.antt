use Rattle.std.proofs.Common.{codes, drop, lit<, rules}
use Rattle.network_setup.proofs.Cutting.{cut_first, cut_none}
use Rattle.network_setup.proofs.words.read_span.Goals as goal

pub returns-in-Some-clause-span : goal.returns-in-Some-clause-span
returns-in-Some-clause-span c =
    let found = c.in-Some.ensures.cases in
    let word = c.args.word.now in
    let cut = cut_first (codes "..") (lit< tt) word found.0 (drop found.1 word) found.2.0 found.2.1.split in
    rw (cut, ← found.3, ← found.4) (search rules)

pub returns-in-None-clause-span : goal.returns-in-None-clause-span
returns-in-None-clause-span c =
    let cut = cut_none (codes "..") (lit< tt) c.args.word.now c.in-None.ensures.cases in
    rw cut (search rules)
