use Rattle.heap_core.proofs.Lemmas.{rules, arith, [], ◌≡◌, ℕ, ◌≤◌, sym, ap, ◌∙◌, subst, Option, find, resized, Place, Region, Block, has_name, block_at, with_block, place, heap_of, IsLaidOut, chunks_of, store_of, Some, None, count, put_named, linked_is, joined_is, named_with, count_absent, map_none, placed_more, resized_none, low_placed}
use Rattle.heap_core.proofs.heap.Heap.alloc.Goals as goal
use Rattle.heap_core.proofs.heap.Heap.alloc.Goals.{After-join}

chosen : (c : After-join) (o : Option Place) → place c.args.n (store_of c.join.new.self c.join.new.arena.bytes) ≡ o
    → place c.args.n (heap_of c.args.self.now c.args.arena.now.bytes) ≡ o
chosen c o is =
    subst (λ (r : Region). place c.args.n (heap_of r c.args.arena.now.bytes) ≡ o) c.self.view_is
    (ap (place c.args.n) (sym (joined_is c.join.ensures.joins c.join.ensures.none)) ∙ is)

pub returns-in_err-target-clause-refused : goal.returns-in_err-target-clause-refused
returns-in_err-target-clause-refused c =
    grind (
      arith,
      chosen (goal.at.returns-in_err-target-clause-refused c).After-join None
          (sym c.in_err-target.ensures.place),
    )

pub returns-in_err-target-clause-linked : goal.returns-in_err-target-clause-linked
returns-in_err-target-clause-linked c = let j = c.join.ensures in
    linked_is c.join.new.self c.join.new.arena.bytes j.joins.chunks j.joins.gaps j.joins.freed j.none

pub put-requires-clause-at : goal.put-requires-clause-at
put-requires-clause-at c = low_placed c.join.ensures.joins.chunks c.requires.some_bytes (sym c.in_ok-target.ensures.place)

pub returns : goal.returns
unfolding chunks_of
returns c = let some = chosen (goal.at.returns c).After-join (Some c.in_ok-target.target.place) (sym c.in_ok-target.ensures.place) in
    let was = c.self.inside.region in let A = c.args.arena.now.bytes in
    let old = heap_of was A in let name = c.number_of-name.result in let j = c.join.ensures in
    let laid : IsLaidOut was A = grind arith in
    let absent : find (has_name name) old.blocks ≡ None = grind (arith, map_none) in
    let target = c.in_ok-target.target.place in let bytes = resized c.args.n [] in let mid =
    heap_of c.put_block.new.self c.put_block.new.arena.bytes in
    let block : Block = block_at target name bytes in
    let put = put_named j.joins.chunks j.joins.freed j.none c.put_block.ensures.kept block
    (store_of c.join.new.self c.join.new.arena.bytes) c.put_block.ensures.block (j.joins.freed.all ∙ j.none)
    c.number_of-name.ensures.within in
    let is = put.is ∙ ap (with_block block) (joined_is j.joins j.none) in let f = put.freed in
    let named : (other : ℕ) → count other mid.blocks ≤ 1 =
    grind (arith, named_with, count_absent) in
    let places = placed_more was.places old mid target name bytes c.number_of-name.ensures.within absent is laid.places in
    record {
      refused = grind arith;
      unchanged = search rules;
      block = grind (arith, resized_none);
      laid_out = grind arith;
      linked = grind (arith, linked_is);
      rest = search rules;
    }
