use Rattle.mmem_core.proofs.Lemmas.{seen_apart, rules, ◌≡◌, ◌+◌, ◌-◌, ◌≤◌, ◌<◌, length, get_or, slice_set, None, arith, up4, number_of, place_in, last_end, IsLaidOut, LieApart, LieApart-added, linked_appended, last_below, sum_by-set, unused_is, len_le_room, last_end-added, placed, get_or-set_same, taken_is, taken_le_used, block_shared, free_under, unused_place, added, shown, hidden}
use Rattle.mmem_core.proofs.mmem.Mmem.put_last.Goals as goal

pub append-requires-clause-last : goal.append-requires-clause-last
append-requires-clause-last c = last_below (shown c.self.invariant.0)

pub invariant_of-self : goal.invariant_of-self
invariant_of-self c =
    let lie = seen_apart c.self.view_is c.self.invariant.1 in
    let m = c.self.inside in let t = c.args.self.now in let bytes = c.args.arena.now.bytes in let number = c.number_of-number.result in
    let n = c.args.n in let p = c.args.key.0.0 in let h = c.args.key.1 in
    let unused = unused_place t lie bytes c.requires.within (number_of p h) c.requires.fresh in
    let none : place_in m.places number ≡ None = grind arith in
    let none' : place_in m.places (number_of p h) ≡ None = grind arith in
    let below : number < length m.places = omega (arith, c.number_of-number.ensures.within, (shown c.self.invariant.0).names) in
    let room : last_end m.places + up4 n ≤ m.span.len = grind arith in
    let at : c.end-at.result ≡ last_end m.places = grind arith in
    let fresh = placed c.end-at.result n in let places = slice_set m.places number fresh in
    let named : number < 272 = c.number_of-number.ensures.within in
    let left = unused_is t lie bytes c.requires.within m.used (grind arith) in
    let laid_out : IsLaidOut places c.append.new.self (m.used + c.rounded.result) m.span.len = record {
      linked = rw (c.append.ensures, at) (hidden (linked_appended (shown c.self.invariant.0) number n named none c.requires.some_bytes));
      total = grind (arith, sum_by-set);
      fits = grind arith;
    } in
    let apart : LieApart places m.span.len =
    rw at (LieApart-added m.places number n below m.span.len c.self.invariant.1 c.requires.some_bytes room) in rw c.put.ensures (
      laid_out,
      apart,
      c.self.invariant.2,
      rw (c.number_of-number.ensures.number, c.process_index.ensures.value, c.rounded.ensures, c.rounded-2.ensures)
          (block_shared m.quotas m.places m.taken m.used m.span.len c.self.invariant.3 p h c.requires.named
          (omega (arith, below, c.number_of-number.ensures.number)) fresh none' (grind arith) (λ quota each.
          let taken = taken_is m.quotas m.places m.taken m.used m.span.len c.self.invariant.3 p c.requires.named.0 c.requires.named.1 in
          omega (
            arith,
            c.requires.share,
            len_le_room n,
            c.requires.some_bytes,
            free_under t lie bytes c.requires.within quota p
                (get_or m.taken (p - 3) 0) (grind arith) (grind arith),
          ))),
    )

pub returns : goal.returns
returns c =
    let lie = seen_apart c.self.view_is c.self.invariant.1 in
    let m = c.self.inside in let t = c.args.self.now in let number = c.number_of-number.result in
    let n = c.args.n in let names = (shown c.self.invariant.0).names in
    let is = added t lie c.args.arena.now.bytes c.requires.within t.slid number n (omega arith) in
    record {
      block = grind arith;
      place = grind arith;
      last = grind (arith, get_or-set_same, last_end-added);
      end = grind (arith, slice_set, last_end-added);
      rest = grind (arith, is.rest c.args.arena.now.carved);
      slid = search rules;
    }

pub overflow_add-self-2 : goal.overflow_add-self-2
overflow_add-self-2 c = grind (arith, taken_le_used)
