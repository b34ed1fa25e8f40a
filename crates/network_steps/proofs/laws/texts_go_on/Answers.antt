use Rattle.std.proofs.Common.{◌++◌, ◌∙◌, ap, sym}
use Rattle.medium_core.specs.Air.{Air, still_air}
use Rattle.network_steps.specs.NetworkRuns.{log_of}
use Rattle.network_steps.specs.NetworkText.{log_text}
use Rattle.network_steps.proofs.Moves.{log_moves, text_more}
use Rattle.network_steps.proofs.laws.texts_go_on.Goals as goal

pub returns-clause-log : goal.returns-clause-log
returns-clause-log c = λ configs room links log moves old new is leads.
    log_moves c.logs_go_on.ensures.step c.logs_go_on.ensures.submit c.logs_go_on.ensures.feed configs room links moves log old new is leads

pub returns-clause-promise : goal.returns-clause-promise
returns-clause-promise c = λ configs room links log moves old new is leads.
    c.logs_keep_promise.ensures configs room links (log ++ log_of old moves) new
    (log_moves c.logs_go_on.ensures.step c.logs_go_on.ensures.submit c.logs_go_on.ensures.feed configs room links moves log old new is leads)

pub returns-clause-text : goal.returns-clause-text
returns-clause-text c = λ quiet configs room links log more old is.
    text_more quiet log more (still_air room links)
    ∙ ap (λ (air : Air). log_text quiet (still_air room links) log ++ log_text quiet air more) (sym is.air)
