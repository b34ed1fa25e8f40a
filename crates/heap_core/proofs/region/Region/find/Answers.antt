use Rattle.heap_core.proofs.Lemmas.{sym, ◌∙◌, arith, none_found, some_found, stored}
use Rattle.heap_core.proofs.region.Region.find.Goals as goal

pub chunk_at-requires-clause-inside : goal.chunk_at-requires-clause-inside
chunk_at-requires-clause-inside c =
    omega (
      arith,
      (some_found
          (stored c.requires.laid_out) c.requires.name (sym c.get.ensures ∙ c.in_ok-at.was)).1,
    )

pub returns-in_err-at : goal.returns-in_err-at
returns-in_err-at c =
    c.from_residual.ensures ∙ sym
    (none_found
    (stored c.requires.laid_out) c.requires.name (sym c.get.ensures ∙ c.in_err-at.was))

pub returns : goal.returns
returns c =
    grind (
      arith,
      some_found
          (stored c.requires.laid_out) c.requires.name (sym c.get.ensures ∙ c.in_ok-at.was),
    )
