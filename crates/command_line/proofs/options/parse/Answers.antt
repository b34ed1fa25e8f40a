use Rattle.std.proofs.Common.{◌≡◌, ◌∙◌, ap, sym, subst}
use Rattle.command_line.proofs.Common.{IfOk-weaker, fault_of, is_simple_and_free, app_of, is_simple, matches_of, texts, program}
use Rattle.clap.specs.Kinds.{FailsBy}
use Rattle.command_line.proofs.Matches.{errors_in_is, program_is_free, program_is_simple, matches_in_is}
use Rattle.command_line.proofs.options.parse.Goals as goal

pub returns-clause-matches : goal.returns-clause-matches
returns-clause-matches c =
    let is_program : app_of c.in_ok-command.command ≡ program c.args.program.name.now = c.in_ok-command.ensures in
    IfOk-weaker c.try_get_matches_from.result _ _
    (λ matches exact. (exact (ap is_simple is_program ∙ program_is_simple c.args.program.name.now)).0
    ∙ (ap (λ app. matches_of app (texts c.args.words.now)) is_program
    ∙ sym (matches_in_is c.args.program.name.now (texts c.args.words.now))))
    c.try_get_matches_from.ensures.matches

pub returns-clause-faults : goal.returns-clause-faults
returns-clause-faults c =
    let is_program : app_of c.in_ok-command.command ≡ program c.args.program.name.now = c.in_ok-command.ensures in
    subst (λ kinds. FailsBy kinds c.try_get_matches_from.result)
    (ap (λ app. fault_of app (texts c.args.words.now)) is_program ∙ sym (errors_in_is c.args.program.name.now (texts c.args.words.now)))
    (c.try_get_matches_from.ensures.kinds (ap is_simple_and_free is_program ∙ program_is_free c.args.program.name.now))
