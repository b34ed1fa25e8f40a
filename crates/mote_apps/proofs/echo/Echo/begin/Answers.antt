use Rattle.std.proofs.Common.{rules, arith, ◌≡◌, ◌≤◌, ◌==◌, ℕ, List, true, [], ◌∷◌, length, refl, sym, ◌∙◌}
use Rattle.std.proofs.lemmas.List.{take_all, drop_all}
use Rattle.mote_apps.proofs.echo.Echo.begin.Goals as goal

nothing_in : (xs : List ℕ) → (length xs == 0) ≡ true → xs ≡ []
nothing_in [] h = refl
nothing_in (x ∷ xs) h = grind arith

pub returns-then-is_empty-clause-call : goal.returns-then-is_empty-clause-call
returns-then-is_empty-clause-call c =
    let short : length c.args.line.now ≤ 64 = search rules in
    rw (c.put_print.ensures, take_all 64 c.args.line.now short) refl

pub returns-then-is_empty-clause-state : goal.returns-then-is_empty-clause-state
returns-then-is_empty-clause-state c =
    let short : length c.args.line.now ≤ 64 = search rules in
    let nothing = nothing_in c.args.self.now.rest.items (sym c.is_empty.ensures ∙ c.if-is_empty.true) in
    rw (nothing, drop_all 64 c.args.line.now short) refl
