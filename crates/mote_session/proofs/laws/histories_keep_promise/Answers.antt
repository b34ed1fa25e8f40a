use Rattle.mote_session.proofs.Answering.{replayed_answers}
use Rattle.mote_session.proofs.Leading.{so_far}
use Rattle.mote_session.proofs.laws.histories_keep_promise.Goals as goal

pub returns : goal.returns
returns c = λ history session is. record {
  run = λ says answers.
      let all = c.runs_keep_laws.ensures.laws history.config is.bootable in
      let ran = all.exists says history.inputs in
      let begun = so_far says history session.machine answers ran.0 ran.1 session.turn is.stands in
      record {
        last = ran.0;
        runs = ran.1;
        later = begun.0;
        front = begun.1;
        whole = begun.2;
        laws = all.kept says history.inputs ran.0 ran.1;
      };
  answered = replayed_answers history.entries;
}
