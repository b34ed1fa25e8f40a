use Rattle.std.proofs.Common.{◌≡◌, List, Result, Ok, Err, IfErr, IsErrAnd, inl, inr, subst, sym}
use Rattle.std.proofs.lemmas.Result.{IfErr-weaker, IfOk-weaker}
use Rattle.clap.specs.Walk.{Row, rows_of, texts}
use Rattle.clap.specs.Words.{found_of}
use Rattle.command_line.specs.declared.failure.Failure.{Failure}
use Rattle.mote_picture.specs.CommandLine.{IsByParser, matches_in}
use Rattle.mote_picture.specs.Named.{IsNamed, IsOfWords, MayReport}
use Rattle.mote_picture.specs.declared.undrawn.Undrawn.{Undrawn}
use Rattle.mote_picture.proofs.named.read_words.Goals as goal

of_words : (rows : List Row) (undrawn : Undrawn) → MayReport rows undrawn → IsOfWords rows undrawn
of_words rows (Undrawn.Program failure) given = inr given
of_words rows (Undrawn.BadRange from to) back = back
of_words rows (Undrawn.NoLine number) none = absurd none
of_words rows Undrawn.Quiet none = absurd none
of_words rows Undrawn.QuietRange none = absurd none

refused_as : {T : Type 0} (result : Result T Undrawn) (failure : Failure) (rows : List Row)
    → IsErrAnd result (λ undrawn. undrawn ≡ Undrawn.Program failure) → IsByParser failure → IfErr result (IsOfWords rows)
refused_as (Ok named) failure rows is by_parser = tt
refused_as (Err undrawn) failure rows is by_parser = subst (IsOfWords rows) (sym is) (inl by_parser)

pub returns-clause-named : goal.returns-clause-named
returns-clause-named c =
    IfOk-weaker c.named_by.result _ _ (λ named is. subst (λ rows. IsNamed rows named) c.in_ok-matches.ensures.matches is)
    c.named_by.ensures.named

pub returns-clause-refused : goal.returns-clause-refused
returns-clause-refused c =
    IfErr-weaker c.named_by.result _ _
    (λ undrawn may. subst (λ rows. IsOfWords rows undrawn) c.in_ok-matches.ensures.matches
    (of_words (rows_of (found_of c.in_ok-matches.matches)) undrawn may))
    c.named_by.ensures.refused

pub returns-in_err-matches-clause-refused : goal.returns-in_err-matches-clause-refused
returns-in_err-matches-clause-refused c =
    refused_as c.from_residual.result c.in_err-matches.field-0.0 (matches_in (texts c.args.words.now)) c.from_residual.ensures.1
    c.in_err-matches.ensures.refused
