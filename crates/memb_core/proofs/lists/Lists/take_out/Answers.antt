use Rattle.memb_core.proofs.Lemmas.{◌≡◌, ◌-◌, ◌∙◌, ap, Some, None, eqb, get_or, slice_get, refl, rules, arith, position, list_of, slice_get-get_or, slice_get_within, listed_below, link_small, first_out, later_out, made, found, has_at, no_place, without_none}
use Rattle.memb_core.proofs.lists.Lists.take_out.Goals as goal
use Rattle.memb_core.proofs.lists.Lists.take_out.Goals.{In-Some, After-deref-else-place-eq0}

pub returns-in_default-clause-list : goal.returns-in_default-clause-list
returns-in_default-clause-list c =
    let none : position (λ other. eqb other c.args.b) (list_of c.args.name c.args.self.now c.args.pool.now c.args.arena.now.bytes) ≡ None =
    grind arith in
    grind (arith, without_none, no_place)

at : (c : In-Some) → slice_get (list_of c.args.name c.args.self.now c.args.pool.now c.args.arena.now.bytes) c.in-Some.place ≡ Some c.args.b
at c = found c.args.b c.in-Some.place (list_of c.args.name c.args.self.now c.args.pool.now c.args.arena.now.bytes)
    (c.in-Some.ensures ∙ ap (position (λ other. eqb other c.args.b)) (c.deref.ensures.0 ∙ c.numbers-numbers.ensures))

pub link-next-requires : goal.link-next-requires
link-next-requires c =
    grind (
      arith,
      listed_below,
      link_small,
      has_at c.in-Some.place c.args.b
          (list_of c.args.name c.args.self.now c.args.pool.now c.args.arena.now.bytes) (at (goal.at.link-next-requires c).In-Some),
    )

prev : (c : After-deref-else-place-eq0)
    → slice_get (list_of c.args.name c.args.self.now c.args.pool.now c.args.arena.now.bytes) c.in-Some.place ≡ Some c.args.b
    → slice_get (list_of c.args.name c.args.self.now c.args.pool.now c.args.arena.now.bytes) (c.in-Some.place - 1)
    ≡ Some (get_or c.deref-else-place-eq0.result.now (c.in-Some.place - 1) 0)
prev c here = let list = list_of c.args.name c.args.self.now c.args.pool.now c.args.arena.now.bytes in
    let within = slice_get_within list c.in-Some.place c.args.b here in
    grind (arith, slice_get-get_or list (c.in-Some.place - 1) 0 (omega arith))

pub put_link-requires-clause-block : goal.put_link-requires-clause-block
put_link-requires-clause-block c =
    listed_below c.args.name (get_or c.deref-else-place-eq0.result.now (c.in-Some.place - 1) 0) c.requires
    (has_at (c.in-Some.place - 1) (get_or c.deref-else-place-eq0.result.now (c.in-Some.place - 1) 0)
    (list_of c.args.name c.args.self.now c.args.pool.now c.args.arena.now.bytes)
    (prev (goal.at.put_link-requires-clause-block c).After-deref-else-place-eq0
    (at (goal.at.put_link-requires-clause-block c).In-Some)))

pub returns-then-place-eq0 : goal.returns-then-place-eq0
returns-then-place-eq0 c =
    let here = at (goal.at.returns-then-place-eq0 c).In-Some in
    let is = made c.requires (first_out c.args.name c.requires c.args.b c.put_head.new.self (grind arith) (grind arith)) refl in
    record { list = is.0; others = is.1; rest = search rules }

pub returns-else-place-eq0 : goal.returns-else-place-eq0
returns-else-place-eq0 c =
    let here = at (goal.at.returns-else-place-eq0 c).In-Some in
    let is = made c.requires
    (later_out c.args.name c.requires c.args.b (c.in-Some.place - 1) (get_or c.deref-else-place-eq0.result.now (c.in-Some.place - 1) 0)
    c.put_link.new.arena.bytes (grind arith) (prev (goal.at.returns-else-place-eq0 c).After-deref-else-place-eq0 here)
    (grind arith) (grind arith) (λ d far. c.put_link.ensures.others d far))
    c.put_link.ensures.blocks in
    record { list = is.0; others = is.1; rest = search rules }
