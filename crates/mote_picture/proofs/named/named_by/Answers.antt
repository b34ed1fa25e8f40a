use Rattle.std.proofs.Common.{codes, ◌≡◌, ◌∙◌, ◌≤◌, true, ap, subst, refl, sym, List, map, Option, Some, None, Result, Ok, Err, IfErr, IsErrAnd, unwrap_or, option_map, length, []}
use Rattle.std.proofs.lemmas.List.{length-map}
use Rattle.std.specs.Borrow.{Bor}
use Rattle.clap.specs.Matches.{matched_of, raw_values}
use Rattle.clap.specs.Walk.{Row, Text, rows_of, texts}
use Rattle.clap.specs.Words.{found_of}
use Rattle.clap.specs.declared.parser.matches.Found.{Found}
use Rattle.command_line.proofs.Matches.{names_given}
use Rattle.command_line.specs.CommandLine.{names_of, sizes_of}
use Rattle.command_line.specs.declared.failure.Failure.{Failure}
use Rattle.node_memory.specs.Sizes.{are_sizes}
use Rattle.mote_picture.specs.Named.{MayRefuse, MayReport}
use Rattle.mote_picture.specs.declared.undrawn.Undrawn.{Undrawn}
use Rattle.mote_picture.proofs.named.named_by.Goals as goal

given_or : (given : Option (Bor (List (Bor Text)))) (none : Bor (List (Bor Text))) → none.now ≡ []
    → texts (unwrap_or given none).now ≡ unwrap_or (option_map (λ names. texts names.now) given) []
given_or None none empty = ap texts empty
given_or (Some names) none empty = refl

names_read : (found : Found) (given : Option (Bor (List (Bor Text)))) (names none : Bor (List (Bor Text))) → none.now ≡ []
    → option_map (λ names. map (λ name. name.now) names.now) given ≡ option_map raw_values (matched_of found (codes "APP"))
    → names ≡ unwrap_or given none → texts names.now ≡ names_of (rows_of found)
names_read found given names none empty of_found is =
    ap (λ names. texts names.now) is ∙ given_or given none empty ∙ sym (names_given found (codes "APP") given refl of_found)

as_many : (names : List (Bor Text)) (rows : List Row) → texts names ≡ names_of rows → length names ≡ length (names_of rows)
as_many names rows read = sym (length-map names (λ (name : Bor Text). name.now)) ∙ ap length read

refused_as : {T : Type 0} (result : Result T Undrawn) (failure : Failure) (rows : List Row)
    → IsErrAnd result (λ undrawn. undrawn ≡ Undrawn.Program failure) → MayRefuse (sizes_of rows) (length (names_of rows)) failure
    → IfErr result (MayReport rows)
refused_as (Ok named) failure rows is given = tt
refused_as (Err undrawn) failure rows is given = subst (MayReport rows) (sym is) given

pub returns-clause-named : goal.returns-clause-named
returns-clause-named c =
    let rows = rows_of (found_of c.args.matches.now) in
    let read = names_read (found_of c.args.matches.now) c.get_strs.result c.unwrap_or-given.result _ refl c.get_strs.ensures
    c.unwrap_or-given.ensures in
    let count = as_many c.unwrap_or-given.result.now rows read in
    record {
      form = c.form_of.ensures;
      names = ap texts c.in_ok-names.ensures.items ∙ read;
      few = subst (λ n. n ≤ 16) count c.in_ok-sizes.ensures.few;
      sizes = c.in_ok-sizes.ensures.sizes;
      allowed = subst (λ n. are_sizes (sizes_of rows) n ≡ true) count c.in_ok-sizes.ensures.allowed;
      from = c.in_ok-from.ensures.from;
      to = c.in_ok-from.ensures.to;
      order = c.in_ok-from.ensures.order;
      unfolded = c.flag_in.ensures.set;
      folded = c.flag_in.ensures.unset;
    }

pub returns-in_err-sizes-clause-refused : goal.returns-in_err-sizes-clause-refused
returns-in_err-sizes-clause-refused c =
    let rows = rows_of (found_of c.args.matches.now) in
    let failure = c.in_err-sizes.field-0.0 in
    let read = names_read (found_of c.args.matches.now) c.get_strs.result c.unwrap_or-given.result _ refl c.get_strs.ensures
    c.unwrap_or-given.ensures in
    let count = as_many c.unwrap_or-given.result.now rows read in
    refused_as c.from_residual.result failure rows c.from_residual.ensures.1
    (subst (λ n. MayRefuse (sizes_of rows) n failure) count c.in_err-sizes.ensures.refused)
