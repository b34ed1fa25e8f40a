use Rattle.std.proofs.Common.{codes, ◌≡◌, ◌∙◌, ap, refl, arith, List, Option, map, Some, None, unwrap_or, option_map, []}
use Rattle.command_line.proofs.Common.{IfOk-weaker, rows_of, texts, found_of, names_of}
use Rattle.std.proofs.lemmas.Result.{IfErr-weaker}
use Rattle.std.specs.Borrow.{Bor}
use Rattle.clap.specs.Matches.{matched_of, raw_values}
use Rattle.clap.specs.Walk.{Text}
use Rattle.clap.specs.declared.parser.matches.Found.{Found}
use Rattle.command_line.proofs.Matches.{names_given}
use Rattle.command_line.proofs.ReadNames.{applications_of_texts, known_texts, refused_texts}
use Rattle.command_line.proofs.named.applications_in.Goals as goal

names_in : (f : Found) (o given : Option (Bor (List (Bor Text))))
    → option_map (λ s. map (λ v. v.now) s.now) o ≡ option_map raw_values (matched_of f (codes "APP")) → o ≡ given
    → names_of (rows_of f) ≡ unwrap_or (option_map (λ names. texts names.now) given) []
names_in f o given found is =
    names_given f (codes "APP") o refl found ∙ ap (λ o. unwrap_or (option_map (λ names. texts names.now) o) []) is

pub returns-in-Some : goal.returns-in-Some
returns-in-Some g c =
    let by_name = g.T.FromName.by_name in
    let names = c.in-Some.names.now in
    let known = c.read_names.ensures.known in
    rw (names_in (found_of c.args.matches.now) _ (Some c.in-Some.names) c.get_strs.ensures c.in-Some.is) (record {
      applications = IfOk-weaker c.read_names.result _ _ (λ applications are. are ∙ applications_of_texts by_name names)
          c.read_names.ensures.applications;
      known = IfOk-weaker c.read_names.result _ _ (λ applications known. (known_texts by_name names known).0) known;
      few = IfOk-weaker c.read_names.result _ _ (λ applications known. (known_texts by_name names known).1) known;
      refused = IfErr-weaker c.read_names.result _ _ (refused_texts by_name names) c.read_names.ensures.refused;
    })

pub returns-in-None : goal.returns-in-None
returns-in-None g c =
    rw (names_in (found_of c.args.matches.now) _ None c.get_strs.ensures c.in-None.is)
    (record { applications = c.new.ensures; known = refl; few = omega arith; refused = tt })
