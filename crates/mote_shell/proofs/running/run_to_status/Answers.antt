use Rattle.std.proofs.Common.{◌≡◌, ◌∙◌, List, ℕ, ap, map, inr, string_bytes, subst}
use Rattle.mote_run.specs.RunText.{Exchanged}
use Rattle.clap.specs.Walk.{texts}
use Rattle.mote_shell.proofs.NamedRuns.{not_shown, of_shown}
use Rattle.mote_shell.proofs.running.run_to_status.Goals as goal
use Rattle.mote_shell.specs.NamedRuns.{HasRunNamed, IsOutcome}

pub returns-clause-status : goal.returns-clause-status
returns-clause-status g c =
    let by_name = g.T.FromName.by_name in
    let says = g.T.App.says in
    let words = map string_bytes c.args.words.now in
    let done = c.run_words-outcome.ensures in
    let taken_old = g.S.ByteSource.taken c.args.source.now in
    let taken = g.S.ByteSource.taken c.run_words-outcome.new.source in
    let is_ended = g.S.ByteSource.is_ended c.run_words-outcome.new.source in
    let given_old = g.K.ByteSink.given c.args.sink.now in
    let given = g.K.ByteSink.given c.run_words-outcome.new.sink in
    let same : texts c.as_slice.result.now ≡ words = ap texts c.as_slice.ensures.value ∙ c.in_ok-texts.ensures.texts in
    let allowed = subst (λ (w : List (List ℕ)). IsOutcome by_name w c.run_words-outcome.result) same done.outcome in
    record {
      outcome = c.finish.ensures.shown;
      is_allowed = of_shown (IsOutcome by_name words) _ _ allowed
          (λ text asked refused. inr (_, refused.0, refused.1)) c.finish.ensures.is_shown;
      is_done = λ source_named sink_named.
          let ran = subst (λ (w : List (List ℕ)). Exchanged taken_old taken is_ended given_old given
          (HasRunNamed by_name says w c.run_words-outcome.result)) same (done.run source_named sink_named) in
          of_shown (λ outcome. Exchanged taken_old taken is_ended given_old given (HasRunNamed by_name says words outcome)) _ _ ran
          (λ text asked run. not_shown by_name says words text (subst (IsOutcome by_name words) asked allowed) run)
          c.finish.ensures.is_shown;
      is_status = c.finish.ensures.is_status;
    }
