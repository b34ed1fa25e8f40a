use Rattle.std.proofs.Common.{◌∙◌, ap}
use Rattle.command_line.proofs.Common.{texts, applications_of, is_quiet, names_of, sizes_of}
use Rattle.command_line.proofs.Matches.{named_read}
use Rattle.command_line.proofs.named.read_words.Goals as goal

pub returns-clause-named : goal.returns-clause-named
returns-clause-named g c =
    let read = c.in_ok-matches.ensures.matches in
    named_read g.T.FromName.by_name (texts c.args.words.now) _ _ _
    (c.in_ok-applications.ensures.applications ∙ ap (λ rows. applications_of g.T.FromName.by_name (names_of rows)) read)
    (c.sizes_in.ensures ∙ ap sizes_of read)
    (c.is_quiet.ensures ∙ ap is_quiet read)
