use Rattle.heap_core.proofs.Lemmas.{◌≡◌, ◌+◌, ◌-◌, length, sym, subst, arith, length-replicate, zeros, Contents, ChangesOnly, changes_only}
use Rattle.heap_core.proofs.region.Region.clear.Goals as goal

pub returns-clause-others : goal.returns-clause-others
returns-clause-others c =
    let from = c.args.from in let n = c.args.live.size in let P = c.args.self.now.span.at + c.args.live.at + c.args.self.now.header in
    let B = c.args.arena.now.bytes in
    let count : length (zeros (n - from))
    ≡ n - from = length-replicate (n - from) 0 in subst (λ (a : Contents). ChangesOnly P n B a.bytes) (sym c.fill.ensures.bytes)
    (changes_only B (P + from) (zeros (n - from)) (omega (arith, c.requires.within, c.requires.inside)) P n (omega arith) (omega arith))
