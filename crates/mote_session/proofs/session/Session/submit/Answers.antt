use Rattle.mote_session.proofs.session.Session.submit.Goals as goal

pub returns-clause-history : goal.returns-clause-history
returns-clause-history c = λ history is.
    let on = c.histories_go_on.ensures.submit history c.args.call _ _ is c.end_turn.ensures.submitted c.end_turn.ensures.inputs in
    (on, c.histories_keep_promise.ensures _ _ on)
