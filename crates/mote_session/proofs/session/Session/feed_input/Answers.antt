use Rattle.mote_session.proofs.Keeping.{if_ok, keeps}
use Rattle.mote_session.proofs.session.Session.feed_input.Goals as goal

pub returns-clause-history : goal.returns-clause-history
returns-clause-history c =
    if_ok c.feed_at_rest.result (λ _ accepted history is.
    keeps c.histories_keep_promise.ensures
    (c.histories_go_on.ensures.input history c.args.input _ _ is c.in_ok-test_rest.ensures.accepted.1 accepted.1))
    c.feed_at_rest.ensures.accepted
