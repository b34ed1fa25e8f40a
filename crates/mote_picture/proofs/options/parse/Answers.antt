use Rattle.std.proofs.Common.{◌≡◌, ◌∙◌, codes, Result, Ok, Err, IfErr, IsErrAnd, ap, sym, subst, inl, inr, refl}
use Rattle.clap.specs.Simple.{app_of, is_simple, matches_of}
use Rattle.clap.specs.Walk.{texts}
use Rattle.command_line.specs.declared.failure.Failure.{Failure}
use Rattle.mote_picture.specs.CommandLine.{IsByParser, program}
use Rattle.mote_picture.proofs.CommandLine.{matches_in_is, program_is_simple}
use Rattle.mote_picture.proofs.options.parse.Goals as goal

refused_as : {T : Type 0} (result : Result T Failure) (failure : Failure) → IsErrAnd result (λ other. other ≡ failure)
    → IsByParser failure → IfErr result IsByParser
refused_as (Ok matches) failure is by_parser = tt
refused_as (Err other) failure is by_parser = subst IsByParser (sym is) by_parser

pub returns-clause-matches : goal.returns-clause-matches
returns-clause-matches c =
    let is_program : app_of c.in_ok-command.command ≡ program (codes "mote_picture") = c.in_ok-command.ensures in
    (c.in_ok-try_get_matches_from.ensures.matches (ap is_simple is_program ∙ program_is_simple (codes "mote_picture"))).0
    ∙ (ap (λ app. matches_of app (texts c.args.words.now)) is_program ∙ sym (matches_in_is (codes "mote_picture") (texts c.args.words.now)))

pub returns-in_err-command-clause-refused : goal.returns-in_err-command-clause-refused
returns-in_err-command-clause-refused c = refused_as c.from_residual.result _ c.from_residual.ensures.1 (inl refl)

pub returns-in_err-try_get_matches_from-clause-refused : goal.returns-in_err-try_get_matches_from-clause-refused
returns-in_err-try_get_matches_from-clause-refused c = refused_as c.from_residual-in_err-try_get_matches_from.result _
    c.from_residual-in_err-try_get_matches_from.ensures.1 (inr (_, refl))
