use Rattle.network_session.proofs.Logging.{log_submit, log_feed, log_step}
use Rattle.network_session.proofs.laws.logs_go_on.Goals as goal

pub returns : goal.returns
returns c = record {
  boot = λ configs room links net motes air. record { motes = motes; air = air; heard = tt };
  step = λ configs room links log outcome old new l s. log_step configs room links log old new l c.histories_go_on.ensures.next c.histories_go_on.ensures.input outcome s;
  submit = λ configs room links log call old new l s. log_submit configs room links log old new l c.histories_go_on.ensures.submit call s;
  feed = λ configs room links log m input old new l s. log_feed configs room links log old new l c.histories_go_on.ensures.input m input s;
}
