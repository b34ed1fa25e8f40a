use Rattle.mote_session.proofs.Keeping.{if_ok, keeps}
use Rattle.mote_session.proofs.session.Session.feed.Goals as goal

pub returns-in-Ok-true-clause-history : goal.returns-in-Ok-true-clause-history
returns-in-Ok-true-clause-history c =
    if_ok c.feed_at_rest.result (λ _ accepted history is.
    rw (← c.in-Ok-true.ensures.says, c.in-Ok-true.field-0-test) (keeps c.histories_keep_promise.ensures
    (c.histories_go_on.ensures.input history c.read_input_by.new.input _ _ is c.in_ok-test_rest.ensures.accepted.1 accepted.1)))
    c.feed_at_rest.ensures.accepted
