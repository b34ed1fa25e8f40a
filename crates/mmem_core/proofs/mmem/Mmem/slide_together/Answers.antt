use Rattle.mmem_core.proofs.Lemmas.{Place, ◌+◌, ◌-◌, ◌^◌, min, ap, ◌∙◌, arith, rules, inl, refl, inside, some_room, midway_first, is_live, link_below, next_below, down, midway_more, slid_shared, room_behind, shown}
use Rattle.mmem_core.proofs.mmem.Mmem.slide_together.Goals as goal

pub first-next-requires : goal.first-next-requires
first-next-requires c = next_below (shown c.self.invariant.0) 272 (inl refl)

pub loop-next-init : goal.loop-next-init
loop-next-init c = grind (arith, midway_first)

pub block-place-requires-clause-live : goal.block-place-requires-clause-live
block-place-requires-clause-live c = is_live c.in-Some.is c.loop-next.invariant

pub slide_down-moved-requires : goal.slide_down-moved-requires
slide_down-moved-requires c = record {
  within = search rules;
  inside = grind arith;
  down = down c.in-Some.is c.loop-next.invariant c.block-place.ensures;
}

pub overflow_add-end : goal.overflow_add-end
overflow_add-end c =
    grind arith

pub next-next-requires-clause-link : goal.next-next-requires-clause-link
next-next-requires-clause-link c = link_below c.in-Some.is c.loop-next.invariant

pub loop-next-smaller : goal.loop-next-smaller
loop-next-smaller c =
    grind (arith, down c.in-Some.is c.loop-next.invariant c.block-place.ensures)

pub loop-next-preserved : goal.loop-next-preserved
loop-next-preserved c =
    rw (c.put.ensures, c.moved_to.ensures, c.rounded.ensures)
    (midway_more c.in-Some.is c.loop-next.invariant c.block-place.ensures c.saturating_add-self-inside.result
    c.slide_down-moved.new.arena c.next-next.result
    (c.saturating_add-self-inside.ensures ∙ ap (λ k. min (c.loop-next.self-inside.slid + k) (2 ^ 64 - 1)) c.slide_down-moved.ensures.moved)
    c.slide_down-moved.ensures.bytes c.next-next.ensures.number c.next-next.ensures.within)

pub invariant_of-self : goal.invariant_of-self
invariant_of-self c = (
  c.loop-next.invariant.laid_out,
  c.loop-next.invariant.sliding.apart,
  c.loop-next.invariant.small,
  slid_shared c.in_default.is c.loop-next.invariant c.self.invariant.3,
)

pub returns-clause-room : goal.returns-clause-room
returns-clause-room c = room_behind c.in_default.is c.loop-next.invariant

pub put-requires-clause-at : goal.put-requires-clause-at
put-requires-clause-at c =
    let h = c.loop-next.invariant in
    let low = down c.in-Some.is h c.block-place.ensures in let high = inside c.in-Some.is h c.block-place.ensures in
    let some = some_room c.in-Some.is h c.block-place.ensures in
    omega (arith, low, high, some, h.small, ap (λ (place : Place). place.at) c.moved_to.ensures)
