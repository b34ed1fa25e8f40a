use Rattle.call_lists.proofs.Taken.{word_taken}
use Rattle.call_lists.proofs.words.Words.next.Goals as goal

pub returns-clause-taken : goal.returns-clause-taken
returns-clause-taken c = record {
  faultless = λ none. none;
  front =
      λ none. rw c.in-Some.is (word_taken c.in-Some.rest.now _ _ c.parted.ensures.text);
}
