use Rattle.heap_core.proofs.Lemmas.{refl, ap, ◌∙◌, arith, get_or, length, length-replicate, chunks_of, none_placed}
use Rattle.heap_core.proofs.Lemmas.Names.{nowhere}
use Rattle.heap_core.proofs.heap.Heap.new.Goals as goal

pub returns-clause-laid_out : goal.returns-clause-laid_out
unfolding chunks_of
returns-clause-laid_out c bytes within =
    record {
      chunks = grind arith;
      named = λ name. omega arith;
      places =
          record {
            entries = ap length c.new.ensures ∙ length-replicate 272 nowhere;
            told = λ name less. ap (λ places. get_or places name nowhere) c.new.ensures ∙ none_placed 272 name;
          };
      gaps =
          grind arith;
      freed = grind arith;
    }

pub returns-clause-empty : goal.returns-clause-empty
unfolding chunks_of
returns-clause-empty c bytes = refl
