use Rattle.memb_core.proofs.Lemmas.{rules, ◌≡◌, ◌+◌, true, false, not, sym, ap, ◌∙◌, arith, position-Some, length, length-set, length-replicate, zeros, Contents, contents, written, with_used, PoolTable, pool_of, place_of, link_of, KeepsLists, first_unused_is, still_used, pool_allocated, write_inside, links_kept, still_within, kept}
use Rattle.memb_core.proofs.pool.Pool.alloc.Goals as goal

pub usable_span-requires : goal.usable_span-requires
usable_span-requires c = grind arith

pub put_used-requires : goal.put_used-requires
put_used-requires c = grind arith

pub returns-in_err-b-clause-number : goal.returns-in_err-b-clause-number
returns-in_err-b-clause-number c = grind (arith, first_unused_is)

pub returns : goal.returns
unfolding pool_of link_of
returns c =
    let pool = c.args.self.now in let bytes = c.args.arena.now.bytes in let b = c.in_ok-b.b in let fills = c.in_ok-b.ensures.fills in
    let found = position-Some not pool.used b false (sym c.in_ok-b.ensures.number) in
    let place = place_of pool b + 4 + 0 in let count : length (zeros pool.usable) ≡ pool.usable = length-replicate pool.usable 0 in
    let arena : c.fill.new.self ≡ contents (written bytes (pool.span.at + place) (zeros pool.usable)) c.args.arena.now.carved =
    grind arith in
    let lists : KeepsLists pool c.put_used.new.self bytes c.fill.new.self.bytes =
    grind (arith, still_within, length-set, links_kept, still_used) in
    record {
      number = grind (arith, first_unused_is);
      unchanged = search rules;
      block = ap (λ (p : PoolTable). pool_of p c.fill.new.self.bytes) c.put_used.ensures
          ∙ ap (λ (a : Contents). pool_of (with_used b true pool) a.bytes) arena
          ∙ pool_allocated pool fills bytes c.requires b found.0;
      lists = lists;
      in_no_list = grind arith;
      rest = grind (
        arith,
        kept pool fills bytes c.requires place (zeros pool.usable)
            (write_inside pool fills bytes c.requires b 0 (zeros pool.usable) found.0
            (omega arith)) c.put_used.new.self c.args.arena.now.carved
            (ap (λ (p : PoolTable). p.span) c.put_used.ensures),
      );
    }
