use Rattle.mmem_core.proofs.Lemmas.{seen_apart, rules, ◌-◌, ◌<◌, length, slice_set, None, arith, up4, number_of, IsLaidOut, LieApart-freed, linked_removed, lower_below, higher_below, sum_by-set, bytes_moved-freed, freed_shared, room_le_taken, taken_away, shown, hidden}
use Rattle.mmem_core.proofs.mmem.Mmem.free.Goals as goal

pub invariant_of-self : goal.invariant_of-self
invariant_of-self c =
    let m = c.self.inside in let number = c.number_of-number.result in let place = c.block-place.result in
    let named : number < length m.places = omega (arith, (shown c.self.invariant.0).names) in
    let laid_out : IsLaidOut (slice_set m.places number None) c.remove.new.self (m.used - c.rounded.result) m.span.len = record {
      linked = rw c.remove.ensures (hidden (linked_removed (shown c.self.invariant.0) c.self.invariant.1 number
          (c.self.invariant.1.no_empty number (λ none. absurd (cc)))));
      total = grind (arith, sum_by-set);
      fits = omega (arith, c.self.invariant.0.fits);
    } in
    let p = c.args.key.0.0 in let h = c.args.key.1 in rw c.clear.ensures (
      laid_out,
      LieApart-freed m.places m.span.len number named c.self.invariant.1,
      c.self.invariant.2,
      rw (c.number_of-number.ensures.number, c.process_index.ensures.value, c.rounded.ensures, c.rounded-2.ensures)
          (freed_shared m.quotas m.places m.taken m.used m.span.len c.self.invariant.3 p h c.requires.named
          (omega (arith, c.number_of-number.ensures.number, c.number_of-number.ensures.within))
          (up4 place.len) (grind arith)),
    )

pub returns : goal.returns
returns c =
    let names = (shown c.self.invariant.0).names in
    record {
      block = grind (
        arith,
        taken_away c.args.self.now
            (seen_apart c.self.view_is c.self.invariant.1) c.args.arena.now.bytes c.requires.within c.args.self.now.slid
            (number_of c.args.key.0.0 c.args.key.1),
      );
      rest = search rules;
      slid = grind (arith, slice_set, bytes_moved-freed);
      still = grind (arith, bytes_moved-freed);
    }

pub overflow_sub-self-2 : goal.overflow_sub-self-2
overflow_sub-self-2 c = grind (arith, room_le_taken, (shown c.self.invariant.0).names)

pub remove-requires : goal.remove-requires
remove-requires c =
    let number = c.number_of-number.result in
    let some = c.self.invariant.1.no_empty number (λ none. absurd (cc)) in record {
      within = search rules;
      lower = lower_below (shown c.self.invariant.0) c.self.invariant.1 number some;
      higher = higher_below (shown c.self.invariant.0) c.self.invariant.1 number some;
    }
