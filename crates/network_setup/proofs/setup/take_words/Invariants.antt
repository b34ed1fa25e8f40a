use Rattle.std.proofs.Common.{drop, map, option_map}
use Rattle.network_setup.specs.Code.Words.{TakesWords}
use Rattle.network_setup.proofs.setup.take_words.Given as goal

abbrev pub invariant-loop-word : goal.invariant-loop-word
invariant-loop-word l =
    TakesWords (map (λ word. word.now) l.words) (map (λ word. word.now) (drop l.word-index l.words)) (option_map (λ name. name.now) l.option)
    l.fn.config l.config l.fn.applications.items l.applications.items
