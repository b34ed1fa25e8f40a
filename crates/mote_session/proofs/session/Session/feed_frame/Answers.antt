use Rattle.mote_types.specs.declared.entry.Input.{Input}
use Rattle.mote_session.proofs.Keeping.{if_ok, keeps}
use Rattle.mote_session.proofs.session.Session.feed_frame.Goals as goal

pub returns-clause-history : goal.returns-clause-history
returns-clause-history c =
    if_ok c.feed_frame_at_rest.result (λ _ accepted history is.
    keeps c.histories_keep_promise.ensures
    (c.histories_go_on.ensures.input history (Input.Frame c.args.bytes.now) _ _ is c.in_ok-test_rest.ensures.accepted.1 accepted.1))
    c.feed_frame_at_rest.ensures.accepted
