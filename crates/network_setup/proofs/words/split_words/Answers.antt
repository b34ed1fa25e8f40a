use Rattle.std.proofs.Common.{◌≡◌, map, ap, lit<, ◌∙◌, rules}
use Rattle.std.proofs.lemmas.Iterator.Consumers.{YieldsList-end}
use Rattle.std.proofs.lemmas.Iterator.Splits.{YieldsList-from_str_split}
use Rattle.network_setup.proofs.words.split_words.Goals as goal

pub returns-clause-words : goal.returns-clause-words
returns-clause-words c =
    let split = c.split-word-items in
    let same : c.into_iter-word-iterator.result ≡ split.result = search rules in
    let parts = YieldsList-from_str_split {s = c.into_iter-word-iterator.result} 32 c.args.line.now (lit< tt)
    (rw same split.ensures.text) (rw same split.ensures.has_more) (rw same split.ensures.pattern) in
    let all = YieldsList-end parts c.loop-word.yielded _ c.loop-word.yielded_by _ _ c.in-None.is c.next.ensures.steps in
    ap (map (λ word. word.now)) c.loop-word.invariant ∙ all.0
