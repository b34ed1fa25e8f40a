-- The flights of a queue and of a heap as one list.
use Rattle.std.proofs.Common.{◌≡◌, ◌≢◌, ℕ, suc, ◌+◌, ◌-◌, ◌<◌, ◌≤◌, List, [], ◌∷◌, ◌++◌, length, take, drop, get_or, refl, ap, sym, subst, ◌∙◌, arith, Bool, true, false, nat_lt, if◌then◌else◌, IfSome, IsSome, None, Option, Some, option_to_list}
use Rattle.std.proofs.lemmas.Bool.Decides.{nat_tests}
use Rattle.std.specs.List.{AllByRecursion}
use Rattle.medium_core.specs.declared.flight.Flight.{Flight}
use Rattle.medium_core.specs.Code.Heap.{Pile}
use Rattle.medium_core.specs.Code.Queue.{HasRoom, InOrder, is_overtaken, last_due}
use Rattle.medium_core.specs.Flights.{first_flight, with_flight, with_flights}
use Rattle.medium_core.proofs.Order.{all_weaker, order_with}
use Rattle.medium_core.proofs.Room.{length_with}

pub length_all : (more flights : List Flight) → length (with_flights more flights) ≡ length more + length flights
length_all [] flights = omega arith
length_all (f ∷ more) flights = let one = length_with f flights in let rest = length_all more (with_flight f flights) in omega (arith, one, rest)

-- two that arrive at different moments, in either order
with_both : (f g : Flight) (flights : List Flight) → f.due ≢ g.due → with_flight f (with_flight g flights) ≡ with_flight g (with_flight f flights)
with_both f g [] apart = grind (arith, nat_tests)
with_both f g (h ∷ flights) apart = let rest = with_both f g flights apart in grind (arith, nat_tests)

with_last : (f : Flight) (more flights : List Flight) → AllByRecursion (λ (g : Flight). f.due ≢ g.due) more →
    with_flight f (with_flights more flights) ≡ with_flights more (with_flight f flights)
with_last f [] flights apart = refl
with_last f (g ∷ more) flights apart = with_last f more (with_flight g flights) apart.1 ∙ ap (with_flights more) (with_both f g flights apart.0)

-- one came into the heap
pub heap_added : (f : Flight) (heap queue : List Flight) → InOrder heap → with_flights (with_flight f heap) queue ≡ with_flight f (with_flights heap queue)
heap_added f [] queue order = refl
heap_added f (g ∷ heap) queue order = by_test (nat_lt f.due g.due) refl (heap_added f heap (with_flight g queue) order.1)
  where
    by_test : (t : Bool) → nat_lt f.due g.due ≡ t →
        with_flights (with_flight f heap) (with_flight g queue) ≡ with_flight f (with_flights heap (with_flight g queue)) →
        with_flights (if t then f ∷ g ∷ heap else g ∷ with_flight f heap) queue ≡ with_flight f (with_flights (g ∷ heap) queue)
    by_test true e rest =
        let before : f.due < g.due = grind (arith, nat_tests) in
        sym (with_last f (g ∷ heap) queue (omega (arith, before), all_weaker (λ (h : Flight). g.due ≤ h.due) (λ (h : Flight). f.due ≢ h.due) (λ h le. omega (arith, le, before)) heap order.0))
    by_test false e rest = rest

-- until when all of a queue arrive
until_last : (due : ℕ) (queue : List Flight) → InOrder queue → AllByRecursion (λ (g : Flight). due ≤ g.due) queue →
    (due ≤ last_due due queue) × AllByRecursion (λ (g : Flight). g.due ≤ last_due due queue) queue
until_last due [] order later = (omega arith, tt)
until_last due (g ∷ queue) order later = let rest = until_last g.due queue order.1 order.0 in let first = rest.0 in (omega (arith, first, later.0), (rest.0, rest.1))

none_before : (queue : List Flight) → AllByRecursion (λ (g : Flight). 0 ≤ g.due) queue
none_before [] = tt
none_before (g ∷ queue) = (omega arith, none_before queue)

early : (f : Flight) (queue : List Flight) → InOrder queue → last_due 0 queue ≤ f.due → AllByRecursion (λ (g : Flight). g.due ≤ f.due) queue
early f queue order late =
    all_weaker (λ (g : Flight). g.due ≤ last_due 0 queue) (λ (g : Flight). g.due ≤ f.due) (λ g le. omega (arith, le, late)) queue
    (until_last 0 queue order (none_before queue)).1

at_end : (f : Flight) (queue : List Flight) → AllByRecursion (λ (g : Flight). g.due ≤ f.due) queue → with_flight f queue ≡ queue ++ f ∷ []
at_end f [] all = refl
at_end f (g ∷ queue) all = let rest = at_end f queue all.1 in grind (arith, nat_tests, all.0, rest)

pub last_added : (due : ℕ) (f : Flight) (queue : List Flight) → last_due due (queue ++ f ∷ []) ≡ f.due
last_added due f [] = refl
last_added due f (g ∷ queue) = last_added g.due f queue

-- one came to the end of the queue
pub queue_added : (f : Flight) (heap queue : List Flight) → InOrder queue → last_due 0 queue ≤ f.due →
    AllByRecursion (λ (g : Flight). g.due < last_due 0 queue) heap → with_flights heap (queue ++ f ∷ []) ≡ with_flight f (with_flights heap queue)
queue_added f heap queue order late ahead =
    sym (with_last f heap queue (all_weaker (λ (g : Flight). g.due < last_due 0 queue) (λ (g : Flight). f.due ≢ g.due) (λ g less. omega (arith, less, late)) heap ahead)
    ∙ ap (with_flights heap) (at_end f queue (early f queue order late)))

pub order_added : (f : Flight) (queue : List Flight) → InOrder queue → last_due 0 queue ≤ f.due → InOrder (queue ++ f ∷ [])
order_added f queue order late = subst InOrder (at_end f queue (early f queue order late)) (order_with f queue order)

pub ahead_added : (f : Flight) (heap queue : List Flight) → last_due 0 queue ≤ f.due → AllByRecursion (λ (g : Flight). g.due < last_due 0 queue) heap →
    AllByRecursion (λ (g : Flight). g.due < last_due 0 (queue ++ f ∷ [])) heap
ahead_added f heap queue late ahead =
    let last = last_added 0 f queue in
    all_weaker (λ (g : Flight). g.due < last_due 0 queue) (λ (g : Flight). g.due < last_due 0 (queue ++ f ∷ [])) (λ g less. omega (arith, less, late, last)) heap ahead

-- which one arrives next
after_first : (f : Flight) (heap queue : List Flight) → AllByRecursion (λ (g : Flight). f.due ≤ g.due) heap →
    with_flights heap (f ∷ queue) ≡ f ∷ with_flights heap queue
after_first f [] queue later = refl
after_first f (g ∷ heap) queue later =
    let not_less : nat_lt g.due f.due ≡ false = let le = later.0 in grind (arith, nat_tests) in
    rw not_less (after_first f heap (with_flight g queue) later.1)

later_than : (g : Flight) (heap queue : List Flight) → InOrder heap → is_overtaken heap (g ∷ queue) ≡ false → AllByRecursion (λ (f : Flight). g.due ≤ f.due) heap
later_than g [] queue order e = tt
later_than g (f ∷ heap) queue order e =
    let le : g.due ≤ f.due = grind (arith, nat_tests) in
    (le, all_weaker (λ (h : Flight). f.due ≤ h.due) (λ (h : Flight). g.due ≤ h.due) (λ h more. omega (arith, more, le)) heap order.0)

pub queue_first : (g : Flight) (heap queue : List Flight) → InOrder heap → is_overtaken heap (g ∷ queue) ≡ false →
    with_flights heap (g ∷ queue) ≡ g ∷ with_flights heap queue
queue_first g heap queue order e = after_first g heap queue (later_than g heap queue order e)

pub ahead_popped : (g : Flight) (heap queue : List Flight) → is_overtaken heap (g ∷ queue) ≡ false →
    AllByRecursion (λ (f : Flight). f.due < last_due 0 (g ∷ queue)) heap → AllByRecursion (λ (f : Flight). f.due < last_due 0 queue) heap
ahead_popped g [] queue e ahead = tt
ahead_popped g (f ∷ heap) [] e ahead = let less = ahead.0 in absurd (grind (arith, nat_tests))
ahead_popped g (f ∷ heap) (h ∷ queue) e ahead = ahead

-- none overtakes a queue that has one more at its end
pub in_turn_at_end : (f : Flight) (heap queue : List Flight) → is_overtaken heap queue ≡ false → is_overtaken heap (queue ++ f ∷ []) ≡ false
in_turn_at_end f [] queue e = refl
in_turn_at_end f (h ∷ heap) [] e = absurd (cc)
in_turn_at_end f (h ∷ heap) (g ∷ queue) e = e

-- the first of the heap went to the front of the queue
order_pulled : (heap queue : List Flight) → InOrder queue → is_overtaken heap queue ≡ true → InOrder (take 1 heap ++ queue)
order_pulled [] queue order e = order
order_pulled (f ∷ heap) [] order e = (tt, tt)
order_pulled (f ∷ heap) (g ∷ queue) order e =
    let less : f.due < g.due = grind (arith, nat_tests) in
    ((omega (arith, less), all_weaker (λ (h : Flight). g.due ≤ h.due) (λ (h : Flight). f.due ≤ h.due) (λ h le. omega (arith, le, less)) queue order.0), order)

heap_order_pulled : (heap : List Flight) → InOrder heap → InOrder (drop 1 heap)
heap_order_pulled [] order = order
heap_order_pulled (f ∷ heap) order = order.1

ahead_pulled : (heap queue : List Flight) → AllByRecursion (λ (f : Flight). f.due < last_due 0 queue) heap →
    AllByRecursion (λ (f : Flight). f.due < last_due 0 (take 1 heap ++ queue)) (drop 1 heap)
ahead_pulled [] queue ahead = tt
ahead_pulled (f ∷ heap) [] ahead = absurd (omega (arith, ahead.0))
ahead_pulled (f ∷ heap) (g ∷ queue) ahead = ahead.1

within_pulled : (heap queue : List Flight) → length (drop 1 heap) + length (take 1 heap ++ queue) ≡ length heap + length queue
within_pulled [] queue = refl
within_pulled (f ∷ heap) queue = omega arith

pub room_pulled : (room capacity new_capacity : ℕ) (heap new : Pile) (queue items : List Flight) → is_overtaken heap.flights queue ≡ true →
    items ≡ take 1 heap.flights ++ queue → new.flights ≡ drop 1 heap.flights → new.room ≡ heap.room → capacity ≤ new_capacity →
    HasRoom room capacity heap queue → HasRoom room new_capacity new items
room_pulled room capacity new_capacity heap new queue items e is left kept grown h = record {
  order = subst InOrder (sym is) (order_pulled heap.flights queue h.order e);
  heap_order = subst InOrder (sym left) (heap_order_pulled heap.flights h.heap_order);
  ahead = rw (is, left) (ahead_pulled heap.flights queue h.ahead);
  within = omega (arith, h.within, ap length is, ap length left, within_pulled heap.flights queue);
  taken = omega (arith, h.taken, grown);
  heap_taken = omega (arith, h.heap_taken, kept);
}

-- when the last one arrives, read at its index
pub last_read : (due : ℕ) (queue : List Flight) (d : Flight) → 0 < length queue → (get_or queue (length queue - 1) d).due ≡ last_due due queue
last_read due [] d some = absurd (omega arith)
last_read due (f ∷ []) d some = refl
last_read due (f ∷ g ∷ queue) d some =
    let e : length (f ∷ g ∷ queue) - 1 ≡ suc (length (g ∷ queue) - 1) = omega arith in
    ap (λ (i : ℕ). (get_or (f ∷ g ∷ queue) i d).due) e ∙ last_read f.due (g ∷ queue) d (omega arith)

-- the first of the queue arrives next
pub queue_first_flight : (f : Flight) (heap queue : List Flight) → 0 < length queue → f ≡ get_or queue 0 f → InOrder heap →
    is_overtaken heap queue ≡ false → first_flight (with_flights heap queue) ≡ Some f
queue_first_flight f heap [] some e order test = absurd (omega arith)
queue_first_flight f heap (g ∷ queue) some e order test = ap first_flight (queue_first g heap queue order test) ∙ ap (λ (h : Flight). Some h) (sym e)

-- one left the queue, if one was there
pub queue_left : (o : Option Flight) (heap old new : List Flight) → old ≡ option_to_list o ++ new → InOrder heap → is_overtaken heap old ≡ false →
    IfSome o (λ f. with_flights heap old ≡ f ∷ with_flights heap new)
queue_left None heap old new e order test = tt
queue_left (Some f) heap old new e order test =
    subst (λ (l : List Flight). with_flights heap l ≡ f ∷ with_flights heap new) (sym e)
    (queue_first f heap new order (subst (λ (l : List Flight). is_overtaken heap l ≡ false) e test))

pub room_left : (o : Option Flight) (room capacity : ℕ) (heap : Pile) (old new : List Flight) → old ≡ option_to_list o ++ new →
    is_overtaken heap.flights old ≡ false → HasRoom room capacity heap old → HasRoom room capacity heap new
room_left None room capacity heap old new e test h = subst (HasRoom room capacity heap) e h
room_left (Some f) room capacity heap old new e test h =
    let h' : HasRoom room capacity heap (f ∷ new) = subst (HasRoom room capacity heap) e h in
    record {
      order = h'.order.1;
      heap_order = h'.heap_order;
      ahead = ahead_popped f heap.flights new (subst (λ (l : List Flight). is_overtaken heap.flights l ≡ false) e test) h'.ahead;
      within = let w = h'.within in omega (arith, w);
      taken = h'.taken;
      heap_taken = h'.heap_taken;
    }

-- where there is one, what holds of it and of there being one
pub with_some : {X : Type 0} (o : Option X) (P Q : X → Type 0) → IfSome o P → ((x : X) → IsSome o → P x → Q x) → IfSome o Q
with_some None P Q p f = tt
with_some (Some x) P Q p f = f x refl p
