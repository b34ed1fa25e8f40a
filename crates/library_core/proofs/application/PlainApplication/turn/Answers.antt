use Rattle.std.proofs.Common.{◌∙◌, sym}
use Rattle.library_core.proofs.application.PlainApplication.turn.Goals as goal

pub returns-clause-made : goal.returns-clause-made
returns-clause-made c = record {
  before = c.in_ok-application.application;
  said = sym c.application.ensures ∙ c.in_ok-application.was;
  makes = c.turn-call.ensures.answer;
  after = c.turn-call.new.self;
  said_after = c.put.ensures;
  law = c.turn-call.ensures.law;
}
