-- Room for the frames in flight.
use Rattle.std.proofs.Common.{◌≡◌, ℕ, zero, suc, ◌+◌, ◌-◌, ◌<◌, ◌≤◌, ◌==◌, List, [], ◌∷◌, ◌++◌, length, get_or, set, take, drop, refl, add-one, ap, sym, ◌∙◌, arith, Bool, true, false, nat_lt, if◌then◌else◌}
use Rattle.std.proofs.lemmas.Bool.Decides.{nat_tests}
use Rattle.arrayvec.specs.ArrayVec.{ArrayVec}
use Rattle.medium_core.specs.declared.flight.Flight.{Flight}
use Rattle.medium_core.specs.declared.link.Fate.{Fate}
use Rattle.medium_core.specs.declared.link.Link.{Link}
use Rattle.medium_core.specs.Air.{after_frames, begun, flight_over, if_carried}
use Rattle.medium_core.specs.Code.Queue.{Queue}
use Rattle.medium_core.specs.Flights.{with_flight, with_flights}
use Rattle.medium_core.specs.Links.{after_frame, fate, free_after, is_lost}

pub length_with : (f : Flight) (flights : List Flight) → length (with_flight f flights) ≡ length flights + 1
length_with f [] = refl
length_with f (g ∷ flights) = by_test (nat_lt f.due g.due) (length_with f flights)
  where
    by_test : (b : Bool) → length (with_flight f flights) ≡ length flights + 1 →
        length (if b then f ∷ g ∷ flights else g ∷ with_flight f flights) ≡ length (g ∷ flights) + 1
    by_test true rest = omega arith
    by_test false rest = omega (arith, rest)

-- no more are put in flight than find room
pub length_begun : (free clock from : ℕ) (bytes : ArrayVec ℕ) (position : ℕ) (links : List Link) → length (begun free clock from bytes position links) ≤ free
length_begun free clock from bytes position [] = omega arith
length_begun free clock from bytes position (link ∷ links) =
    by_tests (is_lost link) (free == 0) refl (λ k. length_begun k clock from bytes (position + 1) links)
  where
    by_tests : (a b : Bool) → (free == 0) ≡ b → ((k : ℕ) → length (begun k clock from bytes (position + 1) links) ≤ k) →
        length (if_carried (if a then Fate.Lost else if b then Fate.Full else Fate.Carried) (flight_over clock from bytes position link)
        (begun (if a then free else free - 1) clock from bytes (position + 1) links)) ≤ free
    by_tests true b e rest = rest free
    by_tests false true e rest = let h = rest (free - 1) in omega (arith, h)
    by_tests false false e rest =
        let h = rest (free - 1) in
        let some : 1 ≤ free = grind (arith, nat_tests) in
        omega (arith, h, some)

pub fits_with_all : (room : ℕ) (more flights : List Flight) → length flights ≤ room → length more ≤ room - length flights →
    length (with_flights more flights) ≤ room
fits_with_all room [] flights within fits = within
fits_with_all room (f ∷ more) flights within fits =
    let one = length_with f flights in
    fits_with_all room more (with_flight f flights) (omega (arith, one, fits)) (omega (arith, one, fits))

-- the room that a frame leaves over one link
pub free_spent : (room : ℕ) (f : Flight) (flights : List Flight) (link : Link) →
    room - length (with_flights (if_carried (fate (room - length flights) link) f []) flights) ≡ free_after (room - length flights) link
free_spent room f flights link = by_tests (is_lost link) ((room - length flights) == 0) refl
  where
    by_tests : (a b : Bool) → ((room - length flights) == 0) ≡ b →
        room - length (with_flights (if_carried (if a then Fate.Lost else if b then Fate.Full else Fate.Carried) f []) flights)
        ≡ (if a then room - length flights else (room - length flights) - 1)
    by_tests true b e = refl
    by_tests false true e = grind (arith, nat_tests)
    by_tests false false e = let one = length_with f flights in omega (arith, one)

-- what is put in flight over one link, and then over the others
pub carried_first : (x : Fate) (f : Flight) (others flights : List Flight) →
    with_flights others (with_flights (if_carried x f []) flights) ≡ with_flights (if_carried x f others) flights
carried_first Fate.Carried f others flights = refl
carried_first Fate.Unused f others flights = refl
carried_first Fate.Lost f others flights = refl
carried_first Fate.Full f others flights = refl

pub length_after : (free : ℕ) (links : List Link) → length (after_frames free links) ≡ length links
length_after free [] = refl
length_after free (link ∷ links) = ap suc (length_after (free_after free link) links)

-- the links once one more was used
pub after_more : (free i : ℕ) (links : List Link) (d link : Link) → i < length links → link ≡ get_or links i d →
    take (suc i) (set links i (after_frame free link)) ++ after_frames (free_after free link) (drop (suc i) (set links i (after_frame free link)))
    ≡ take i links ++ after_frames free (drop i links)
after_more free i [] d link h e = absurd (omega arith)
after_more free zero (x ∷ links) d link h e = rw e refl
after_more free (suc i) (x ∷ links) d link h e = ap (λ l. x ∷ l) (after_more free i links d link (omega arith) e)

pub rest_same : (i : ℕ) (links : List Link) (new : Link) → drop (suc i) (set links i new) ≡ drop (suc i) links
rest_same i [] new = refl
rest_same zero (x ∷ links) new = refl
rest_same (suc i) (x ∷ links) new = rest_same i links new

pub split_at : (i : ℕ) (links : List Link) (d : Link) → i < length links → drop i links ≡ get_or links i d ∷ drop (suc i) links
split_at i [] d h = absurd (omega arith)
split_at zero (x ∷ links) d h = refl
split_at (suc i) (x ∷ links) d h = split_at i links d (omega arith)

tail_of : List Link → List Link
tail_of [] = []
tail_of (x ∷ links) = links

drop_tail : (i : ℕ) (links : List Link) → drop (suc i) links ≡ tail_of (drop i links)
unfolding tail_of
drop_tail zero [] = refl
drop_tail (suc i) [] = refl
drop_tail zero (x ∷ links) = refl
drop_tail (suc i) (x ∷ links) = drop_tail i links

pub drop_more : (i : ℕ) (links first : List Link) → drop i links ≡ drop i first → drop (suc i) links ≡ drop (suc i) first
drop_more i links first e = drop_tail i links ∙ (ap tail_of e ∙ sym (drop_tail i first))

-- one link was used
module _ (clock from : ℕ) (bytes : ArrayVec ℕ) (first links : List Link) (i position : ℕ) (d link new : Link) (old after : Queue) where
  pub record OneSent : Type 0 where
    pub within : i < length links
    pub here : link ≡ get_or links i d
    pub left : drop i links ≡ drop i first
    pub same : position ≡ i
    pub used : new ≡ after_frame (old.room - length old.flights) link
    pub spread : after ≡ record old {
      flights =
          with_flights (if_carried (fate (old.room - length old.flights) link) (flight_over clock from bytes position link) []) old.flights;
    }

  pub room_same : OneSent → after.room ≡ old.room
  room_same s = ap (λ (q : Queue). q.room) s.spread

  free_is : OneSent → after.room - length after.flights ≡ free_after (old.room - length old.flights) link
  free_is s = ap (λ (q : Queue). q.room - length q.flights) s.spread ∙ free_spent old.room (flight_over clock from bytes position link) old.flights link

  pub after_sent : OneSent →
      take (suc i) (set links i new) ++ after_frames (after.room - length after.flights) (drop (suc i) (set links i new))
      ≡ take i links ++ after_frames (old.room - length old.flights) (drop i links)
  after_sent s = rw (free_is s, s.used) (after_more (old.room - length old.flights) i links d link s.within s.here)

  pub left_sent : OneSent → drop (suc i) (set links i new) ≡ drop (suc i) first
  left_sent s = rest_same i links new ∙ drop_more i links first s.left

  pub flights_sent : OneSent →
      with_flights (begun (after.room - length after.flights) clock from bytes (suc i) (drop (suc i) first)) after.flights
      ≡ with_flights (begun (old.room - length old.flights) clock from bytes i (drop i first)) old.flights
  flights_sent s =
      let rest : List Link = drop (suc i) first in
      let more : List Flight = begun (free_after (old.room - length old.flights) link) clock from bytes (suc i) rest in
      let split : drop i first ≡ link ∷ rest =
      sym s.left ∙ (split_at i links d s.within ∙ (ap (λ (x : Link). x ∷ drop (suc i) links) (sym s.here) ∙ ap (λ (l : List Link). link ∷ l) (drop_more i links first s.left))) in
      let now = ap (λ (q : Queue). q.flights) s.spread in
      let one = carried_first (fate (old.room - length old.flights) link) (flight_over clock from bytes i link) more old.flights in
      let next = ap (λ (k : ℕ). with_flights (if_carried (fate (old.room - length old.flights) link) (flight_over clock from bytes i link)
      (begun (free_after (old.room - length old.flights) link) clock from bytes k rest)) old.flights) (sym (add-one i)) in
      ap (λ (k : ℕ). with_flights (begun k clock from bytes (suc i) rest) after.flights) (free_is s)
      ∙ (ap (with_flights more) (now ∙ ap (λ (k : ℕ). with_flights (if_carried (fate (old.room - length old.flights) link) (flight_over clock from bytes k link) []) old.flights) s.same)
      ∙ (one ∙ (next ∙ sym (ap (λ (l : List Link). with_flights (begun (old.room - length old.flights) clock from bytes i l) old.flights) split))))
