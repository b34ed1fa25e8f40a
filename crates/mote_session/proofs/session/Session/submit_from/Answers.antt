use Rattle.mote_session.specs.Steps.{HasSameInputs, IsSubmitted}
use Rattle.mote_session.proofs.session.Session.submit_from.Goals as goal

pub returns-clause-history : goal.returns-clause-history
returns-clause-history g c = λ call said history is.
    let both : IsSubmitted call c.args.self.now c.end_turn_from.new.self × HasSameInputs c.args.self.now c.end_turn_from.new.self =
    rw said at c.end_turn_from.ensures.submitted in
    let on = c.histories_go_on.ensures.submit history call _ _ is both.0 both.1 in
    (on, c.histories_keep_promise.ensures _ _ on)
