use Rattle.mmem_core.proofs.Lemmas.{◌≡◌, ◌≤◌, ◌*◌, ℕ, List, Option, Place, None, Some, replicate, sym, subst, arith, LieApart-none, hidden, no_links, none_shared, room_of, sum_by-replicate}
use Rattle.mmem_core.proofs.Words.{AreLinked}
use Rattle.mmem_core.proofs.mmem.Mmem.new.Goals as goal

pub invariant_of-result : goal.invariant_of-result
invariant_of-result c =
    let none : List (Option Place) = replicate 272 None in
    let fit : (bytes : ℕ) → c.args.quota ≡ Some bytes → bytes * c.match-quota.owners ≤ c.args.span.len = grind arith in rw c.new.ensures (
      record {
        linked = subst (AreLinked none) (sym c.new-2.ensures) (hidden no_links);
        total = sum_by-replicate room_of 272 None;
        fits = omega arith;
      },
      LieApart-none 272 c.args.span.len,
      omega arith,
      none_shared (record { each = c.args.quota; owners = c.match-quota.owners }) c.args.span.len fit,
    )
