-- Whatever happens to a medium, it keeps faith.
use Rattle.std.proofs.Common.{◌≡◌, ◌≢◌, ℕ, zero, suc, ◌+◌, ◌<◌, ◌≤◌, ◌==◌, ◌||◌, List, [], ◌∷◌, ◌++◌, length, map, max, min, slice_get, slice_set, slice_index_or, refl, ap, sym, subst, ◌∙◌, arith, Bool, true, false, nat_le, if◌then◌else◌, append_assoc, append-nil, Option, None, Some}
use Rattle.std.proofs.lemmas.List.{get_or-set_other}
use Rattle.std.proofs.lemmas.Bool.Decides.{nat_tests}
use Rattle.std.specs.List.{AllByRecursion}
use Rattle.std.specs.Option.{option_map}
use Rattle.arrayvec.specs.ArrayVec.{ArrayVec}
use Rattle.medium_core.specs.declared.flight.Flight.{Flight}
use Rattle.medium_core.specs.declared.link.Fate.{Fate}
use Rattle.medium_core.specs.declared.link.Link.{Link}
use Rattle.medium_core.specs.Air.{Air, after_frames, arrival_in, begun, flight_over, free_room, gone_on, if_carried, landed, link_at, links_from, sent, until, without}
use Rattle.medium_core.specs.Code.Queue.{InOrder}
use Rattle.medium_core.specs.Flights.{with_flights}
use Rattle.medium_core.specs.Laws.{Deed, Frame, Landing, all_done, carried, done, flights_landed, flown, free_at, is_over, landed_in, landing_at, landings, over, sent_by, through}
use Rattle.medium_core.specs.Links.{after_frame, fate, free_after, is_lost}
use Rattle.medium_core.proofs.Order.{Near, At, all_weaker, all_with_all, order_with_all, over_with_all}
use Rattle.medium_core.proofs.Room.{fits_with_all, length_begun}

-- what is in flight is in order, should not have landed so far, and has room
pub record IsSound (air : Air) : Type 0 where
  pub order : InOrder air.flights
  pub ahead : AllByRecursion (λ (f : Flight). air.clock ≤ f.due) air.flights
  pub within : length air.flights ≤ air.room

all_if_carried : (P : Flight → Type 0) (x : Fate) (f : Flight) (others : List Flight) → P f → AllByRecursion P others → AllByRecursion P (if_carried x f others)
all_if_carried P Fate.Carried f others own rest = (own, rest)
all_if_carried P Fate.Unused f others own rest = rest
all_if_carried P Fate.Lost f others own rest = rest
all_if_carried P Fate.Full f others own rest = rest

all_begun : (P : Flight → Type 0) (clock from : ℕ) (bytes : ArrayVec ℕ) → ((position : ℕ) (link : Link) → P (flight_over clock from bytes position link)) →
    (free position : ℕ) (links : List Link) → AllByRecursion P (begun free clock from bytes position links)
all_begun P clock from bytes each free position [] = tt
all_begun P clock from bytes each free position (link ∷ links) =
    all_if_carried P (fate free link) (flight_over clock from bytes position link) (begun (free_after free link) clock from bytes (position + 1) links)
    (each position link) (all_begun P clock from bytes each (free_after free link) (position + 1) links)

sound_passed : (moment clock : ℕ) (flights : List Flight) → InOrder flights → AllByRecursion (λ (f : Flight). clock ≤ f.due) flights →
    AllByRecursion (λ (f : Flight). max clock (until flights moment) ≤ f.due) flights
sound_passed moment clock [] order ahead = tt
sound_passed moment clock (g ∷ flights) order ahead = (
  omega (arith, ahead.0),
  all_weaker (λ (f : Flight). g.due ≤ f.due) (λ (f : Flight). max clock (min g.due moment) ≤ f.due) (λ f le. omega (arith, le, ahead.0)) flights order.0,
)

sound_landed : (clock room : ℕ) (links : List (List Link)) (flights : List Flight) →
    IsSound (record { clock = clock; room = room; links = links; flights = flights }) →
    IsSound (landed (record { clock = clock; room = room; links = links; flights = flights }))
sound_landed clock room links [] sound = sound
sound_landed clock room links (f ∷ flights) sound = by_test (nat_le f.due clock)
  where
    by_test : (b : Bool) → IsSound (without (if b then Some f else None) (record { clock = clock; room = room; links = links; flights = f ∷ flights }))
    by_test true = record { order = sound.order.1; ahead = sound.ahead.1; within = let h = sound.within in omega (arith, h) }
    by_test false = sound

pub sound_done : (deed : Deed) (air : Air) → IsSound air → IsSound (done deed air)
sound_done (Deed.Sends from bytes) air sound =
    let new : List Flight = begun (free_room air) air.clock from bytes 0 (links_from from air) in
    record {
      order = order_with_all new air.flights sound.order;
      ahead = all_with_all (λ (f : Flight). air.clock ≤ f.due) new air.flights
          (all_begun (λ (f : Flight). air.clock ≤ f.due) air.clock from bytes (λ position link. omega arith) (free_room air) 0 (links_from from air)) sound.ahead;
      within = fits_with_all air.room new air.flights sound.within (length_begun (free_room air) air.clock from bytes 0 (links_from from air));
    }
sound_done Deed.Lands air sound = sound_landed air.clock air.room air.links air.flights sound
sound_done (Deed.Passes moment) air sound = record {
  order = sound.order;
  ahead = sound_passed moment air.clock air.flights sound.order sound.ahead;
  within = sound.within;
}

pub sound_all : (deeds : List Deed) (air : Air) → IsSound air → IsSound (all_done deeds air)
sound_all [] air sound = sound
sound_all (deed ∷ deeds) air sound = sound_all deeds (done deed air) (sound_done deed air sound)

pub same_room : (deeds : List Deed) (air : Air) → (all_done deeds air).room ≡ air.room
same_room [] air = refl
same_room (Deed.Sends from bytes ∷ deeds) air = same_room deeds (sent from bytes air)
same_room (Deed.Lands ∷ deeds) air = same_room deeds (landed air) ∙ room_landed (arrival_in air.clock air.flights)
  where
    room_landed : (o : Option Flight) → (without o air).room ≡ air.room
    room_landed None = refl
    room_landed (Some f) = refl
same_room (Deed.Passes moment ∷ deeds) air = same_room deeds (gone_on moment air)

-- each lands in its moment

abbrev IsPunctual : Landing → Type 0
IsPunctual landing = landing.at ≡ landing.flight.due

punctual_in : (deed : Deed) (air : Air) (more : List Landing) → IsSound air → AllByRecursion IsPunctual more → AllByRecursion IsPunctual (landed_in deed air more)
punctual_in (Deed.Sends from bytes) air more sound all = all
punctual_in (Deed.Passes moment) air more sound all = all
punctual_in Deed.Lands air more sound all = by_list air.flights sound.ahead
  where
    by_test : (f : Flight) → air.clock ≤ f.due → (b : Bool) → nat_le f.due air.clock ≡ b →
        AllByRecursion IsPunctual (landing_at air.clock (if b then Some f else None) more)
    by_test f ahead true e = (grind (arith, nat_tests), all)
    by_test f ahead false e = all

    by_list : (flights : List Flight) → AllByRecursion (λ (f : Flight). air.clock ≤ f.due) flights →
        AllByRecursion IsPunctual (landing_at air.clock (arrival_in air.clock flights) more)
    by_list [] ahead = all
    by_list (f ∷ flights) ahead = by_test f ahead.0 (nat_le f.due air.clock) refl

pub punctual_all : (deeds : List Deed) (air : Air) → IsSound air → AllByRecursion IsPunctual (landings deeds air)
punctual_all [] air sound = tt
punctual_all (deed ∷ deeds) air sound = punctual_in deed air _ sound (punctual_all deeds (done deed air) (sound_done deed air sound))

-- what is over one link

module _ (m position : ℕ) where
  -- nothing of this is over the link
  abbrev Misses : Flight → Type 0
  Misses f = is_over m position f ≡ false

  over_none : (flights : List Flight) → AllByRecursion Misses flights → over m position flights ≡ []
  over_none [] all = refl
  over_none (f ∷ flights) all = rw all.0 (over_none flights all.1)

  at_none : (due : ℕ) (flights : List Flight) → AllByRecursion Misses flights → AllByRecursion (At m position due) flights
  at_none due flights = all_weaker Misses (At m position due) (λ f misses over. absurd (cc)) flights

  missed_after : (free clock from : ℕ) (bytes : ArrayVec ℕ) (p : ℕ) (links : List Link) → position < p → AllByRecursion Misses (begun free clock from bytes p links)
  missed_after free clock from bytes p [] later = tt
  missed_after free clock from bytes p (link ∷ links) later =
      all_if_carried Misses (fate free link) (flight_over clock from bytes p link) (begun (free_after free link) clock from bytes (p + 1) links)
      (grind (arith, nat_tests)) (missed_after (free_after free link) clock from bytes (p + 1) links (omega arith))

  missed_from : (free clock from : ℕ) (bytes : ArrayVec ℕ) (links : List Link) → from ≢ m → AllByRecursion Misses (begun free clock from bytes 0 links)
  missed_from free clock from bytes links other = all_begun Misses clock from bytes (λ p link. grind (arith, nat_tests)) free 0 links

  pub delay_of : Option Link → ℕ
  delay_of None = 0
  delay_of (Some link) = link.delay

  -- what a frame puts in flight over one link
  alone : ℕ → ArrayVec ℕ → ℕ → Option Link → List Flight
  alone clock bytes free None = []
  alone clock bytes free (Some link) = if_carried (fate free link) (flight_over clock m bytes position link) []

  over_own : (x : Fate) (f : Flight) (others : List Flight) → is_over m position f ≡ true → over m position others ≡ [] →
      over m position (if_carried x f others) ≡ if_carried x f []
  over_own Fate.Carried f others own none = rw own (ap (λ l. f ∷ l) none)
  over_own Fate.Unused f others own none = none
  over_own Fate.Lost f others own none = none
  over_own Fate.Full f others own none = none

  over_other : (x : Fate) (f : Flight) (others : List Flight) → is_over m position f ≡ false →
      over m position (if_carried x f others) ≡ over m position others
  over_other Fate.Carried f others misses = rw misses refl
  over_other Fate.Unused f others misses = refl
  over_other Fate.Lost f others misses = refl
  over_other Fate.Full f others misses = refl

  begun_over : (free clock : ℕ) (bytes : ArrayVec ℕ) (p j : ℕ) (links : List Link) → position ≡ p + j →
      over m position (begun free clock m bytes p links) ≡ alone clock bytes (free_at free links j) (slice_get links j)
  unfolding alone
  begun_over free clock bytes p j [] here = refl
  begun_over free clock bytes p zero (link ∷ links) here =
      let same : p ≡ position = omega arith in
      let none = over_none (begun (free_after free link) clock m bytes (p + 1) links) (missed_after (free_after free link) clock m bytes (p + 1) links (omega arith)) in
      over_own (fate free link) (flight_over clock m bytes p link) (begun (free_after free link) clock m bytes (p + 1) links) (grind (arith, nat_tests)) none
      ∙ ap (λ (i : ℕ). if_carried (fate free link) (flight_over clock m bytes i link) []) same
  begun_over free clock bytes p (suc j) (link ∷ links) here =
      over_other (fate free link) (flight_over clock m bytes p link) (begun (free_after free link) clock m bytes (p + 1) links) (grind (arith, nat_tests))
      ∙ begun_over (free_after free link) clock bytes (p + 1) j links (omega arith)

  begun_at : (free clock : ℕ) (bytes : ArrayVec ℕ) (p j : ℕ) (links : List Link) → position ≡ p + j →
      AllByRecursion (At m position (clock + delay_of (slice_get links j))) (begun free clock m bytes p links)
  unfolding delay_of
  begun_at free clock bytes p j [] here = tt
  begun_at free clock bytes p zero (link ∷ links) here =
      let rest = begun (free_after free link) clock m bytes (p + 1) links in
      all_if_carried (At m position (clock + link.delay)) (fate free link) (flight_over clock m bytes p link) rest (λ over. refl)
      (at_none (clock + link.delay) rest (missed_after (free_after free link) clock m bytes (p + 1) links (omega arith)))
  begun_at free clock bytes p (suc j) (link ∷ links) here =
      let misses : is_over m position (flight_over clock m bytes p link) ≡ false = grind (arith, nat_tests) in
      all_if_carried (At m position (clock + delay_of (slice_get links j))) (fate free link) (flight_over clock m bytes p link)
      (begun (free_after free link) clock m bytes (p + 1) links) (λ over. absurd (let e = misses in cc))
      (begun_at (free_after free link) clock bytes (p + 1) j links (omega arith))

  carried_none : (o : Option Link) → carried m position o [] ≡ []
  carried_none None = refl
  carried_none (Some link) = refl

  carried_more : (o : Option Link) (frame : Frame) (frames : List Frame) →
      carried m position o (frame ∷ frames) ≡ alone frame.at frame.bytes frame.free o ++ carried m position (option_map (after_frame frame.free) o) frames
  unfolding alone
  carried_more None frame frames = refl
  carried_more (Some link) frame frames = by_tests (is_lost link) (frame.free == 0)
    where
      rest : List Frame
      rest = through (after_frame frame.free link) frames

      by_tests : (a b : Bool) →
          map (flown m position link) (if a || b then rest else frame ∷ rest)
          ≡ if_carried (if a then Fate.Lost else if b then Fate.Full else Fate.Carried) (flight_over frame.at m frame.bytes position link) []
          ++ map (flown m position (after_frame frame.free link)) rest
      by_tests true b = refl
      by_tests false true = refl
      by_tests false false = refl

  same_delay : (free : ℕ) (o : Option Link) → delay_of (option_map (after_frame free) o) ≡ delay_of o
  unfolding delay_of
  same_delay free None = refl
  same_delay free (Some link) = refl

get_after : (free : ℕ) (links : List Link) (j : ℕ) → slice_get (after_frames free links) j ≡ option_map (after_frame (free_at free links j)) (slice_get links j)
get_after free [] j = refl
get_after free (link ∷ links) zero = refl
get_after free (link ∷ links) (suc j) = get_after (free_after free link) links j

link_after : (free : ℕ) (links : List (List Link)) (m position : ℕ) →
    link_at (slice_set links m (after_frames free (slice_index_or links m []))) m position
    ≡ option_map (after_frame (free_at free (slice_index_or links m []) position)) (link_at links m position)
link_after free [] m position = refl
link_after free (own ∷ links) zero position = get_after free own position
link_after free (own ∷ links) (suc m) position = link_after free links m position

link_other : (links : List (List Link)) (from m position : ℕ) (own : List Link) → m ≢ from → link_at (slice_set links from own) m position ≡ link_at links m position
link_other links from m position own other = ap (λ (l : List Link). slice_get l position) (get_or-set_other links from m own [] other)

module _ (m position : ℕ) where
  -- the link is there, and what is over it arrives by its delay from now on
  pub record Follows (o : Option Link) (air : Air) : Type 0 where
    pub here : link_at air.links m position ≡ o
    pub near : AllByRecursion (Near m position (air.clock + delay_of m position o)) air.flights

  -- the room for a frame that m sends now, when its turn is this link's
  abbrev free_now : Air → ℕ
  free_now air = free_at (free_room air) (links_from m air) position

  follows_sent : (from : ℕ) (bytes : ArrayVec ℕ) (o : Option Link) (air : Air) → from ≡ m → Follows o air →
      Follows (option_map (after_frame (free_now air)) o) (sent from bytes air)
  follows_sent from bytes o air own follows =
      let due : ℕ = air.clock + delay_of m position o in
      let new : List Flight = begun (free_room air) air.clock m bytes 0 (links_from m air) in
      let at : AllByRecursion (At m position due) new =
      rw (← follows.here) (begun_at m position (free_room air) air.clock bytes 0 position (links_from m air) (omega arith)) in
      let near = all_weaker (At m position due) (Near m position due) (λ f at over. omega (arith, at over)) new at in
      let near_all = all_with_all (Near m position due) new air.flights near follows.near in
      rw own (record {
        here = link_after (free_room air) air.links m position ∙ ap (option_map (after_frame (free_now air))) follows.here;
        near = subst (λ (d : ℕ). AllByRecursion (Near m position (air.clock + d)) (with_flights new air.flights))
            (sym (same_delay m position (free_now air) o)) near_all;
      })

  follows_other : (from : ℕ) (bytes : ArrayVec ℕ) (o : Option Link) (air : Air) → from ≢ m → Follows o air → Follows o (sent from bytes air)
  follows_other from bytes o air other follows =
      let due : ℕ = air.clock + delay_of m position o in
      let new : List Flight = begun (free_room air) air.clock from bytes 0 (links_from from air) in
      let missed = missed_from m position (free_room air) air.clock from bytes (links_from from air) other in
      let near = all_weaker (Misses m position) (Near m position due) (λ f misses over. absurd (cc)) new missed in
      record {
        here = link_other air.links from m position (after_frames (free_room air) (links_from from air)) (λ e. other (sym e)) ∙ follows.here;
        near = all_with_all (Near m position due) new air.flights near follows.near;
      }

  abbrev pub Exact : List Deed → Option Link → Air → Type 0
  Exact deeds o air =
      over m position (flights_landed (landings deeds air)) ++ over m position (all_done deeds air).flights
      ≡ over m position air.flights ++ carried m position o (sent_by m position deeds air)

  exact_landed : (deeds : List Deed) (o : Option Link) (clock room : ℕ) (links : List (List Link)) (flights : List Flight) →
      IsSound (record { clock = clock; room = room; links = links; flights = flights }) →
      Follows o (record { clock = clock; room = room; links = links; flights = flights }) →
      ((air : Air) → IsSound air → Follows o air → Exact deeds o air) →
      Exact (Deed.Lands ∷ deeds) o (record { clock = clock; room = room; links = links; flights = flights })
  exact_landed deeds o clock room links [] sound follows rest = rest _ sound follows
  exact_landed deeds o clock room links (f ∷ flights) sound follows rest = by_test (nat_le f.due clock)
    where
      after : Bool → Air
      after b = without (if b then Some f else None) (record { clock = clock; room = room; links = links; flights = f ∷ flights })

      by_over : (b : Bool) (xs ys zs final : List Flight) → xs ++ final ≡ ys ++ zs →
          (if b then f ∷ xs else xs) ++ final ≡ (if b then f ∷ ys else ys) ++ zs
      by_over true xs ys zs final e = ap (λ l. f ∷ l) e
      by_over false xs ys zs final e = e

      by_test : (b : Bool) →
          over m position (flights_landed (landing_at clock (if b then Some f else None) (landings deeds (after b)))) ++ over m position (all_done deeds (after b)).flights
          ≡ over m position (f ∷ flights) ++ carried m position o (sent_by m position deeds (after b))
      by_test true =
          by_over (is_over m position f) _ _ _ _ (rest (record { clock = clock; room = room; links = links; flights = flights })
          (record { order = sound.order.1; ahead = sound.ahead.1; within = let h = sound.within in omega (arith, h) })
          (record { here = follows.here; near = follows.near.1 }))
      by_test false = rest (record { clock = clock; room = room; links = links; flights = f ∷ flights }) sound follows

  exact_sent : (from : ℕ) (bytes : ArrayVec ℕ) (deeds : List Deed) (o : Option Link) (air : Air) → IsSound air → Follows o air →
      ((p : Option Link) → Follows p (sent from bytes air) → Exact deeds p (sent from bytes air)) →
      (b : Bool) → (from == m) ≡ b →
      over m position (flights_landed (landings deeds (sent from bytes air))) ++ over m position (all_done deeds (sent from bytes air)).flights
      ≡ over m position air.flights ++ carried m position o
      (if b then record { at = air.clock; bytes = bytes; free = free_now air } ∷ sent_by m position deeds (sent from bytes air) else sent_by m position deeds (sent from bytes air))
  exact_sent from bytes deeds o air sound follows rest true e =
      let own : from ≡ m = grind (arith, nat_tests) in
      let due : ℕ = air.clock + delay_of m position o in
      let new : List Flight = begun (free_room air) air.clock m bytes 0 (links_from m air) in
      let frame : Frame = record { at = air.clock; bytes = bytes; free = free_now air } in
      let later = sent_by m position deeds (sent from bytes air) in
      let next : Option Link = option_map (after_frame (free_now air)) o in
      let at : AllByRecursion (At m position due) new = rw (← follows.here) (begun_at m position (free_room air) air.clock bytes 0 position (links_from m air) (omega arith)) in
      let now : over m position (sent from bytes air).flights ≡ over m position air.flights ++ over m position new =
      rw own (over_with_all m position due new air.flights sound.order follows.near at) in
      let one : over m position new ≡ alone m position air.clock bytes (free_now air) o =
      begun_over m position (free_room air) air.clock bytes 0 position (links_from m air) (omega arith)
      ∙ ap (alone m position air.clock bytes (free_now air)) follows.here in
      rest next (follows_sent from bytes o air own follows)
      ∙ (ap (λ (l : List Flight). l ++ carried m position next later) (now ∙ ap (λ (l : List Flight). over m position air.flights ++ l) one)
      ∙ (append_assoc (over m position air.flights) (alone m position air.clock bytes (free_now air) o) (carried m position next later)
      ∙ ap (λ (l : List Flight). over m position air.flights ++ l) (sym (carried_more m position o frame later))))
  exact_sent from bytes deeds o air sound follows rest false e =
      let other : from ≢ m = grind (arith, nat_tests) in
      let due : ℕ = air.clock + delay_of m position o in
      let new : List Flight = begun (free_room air) air.clock from bytes 0 (links_from from air) in
      let missed = missed_from m position (free_room air) air.clock from bytes (links_from from air) other in
      let now : over m position (sent from bytes air).flights ≡ over m position air.flights ++ over m position new =
      over_with_all m position due new air.flights sound.order follows.near (at_none m position due new missed) in
      rest o (follows_other from bytes o air other follows)
      ∙ ap (λ (l : List Flight). l ++ carried m position o (sent_by m position deeds (sent from bytes air)))
      (now ∙ (ap (λ (l : List Flight). over m position air.flights ++ l) (over_none m position new missed) ∙ append-nil (over m position air.flights)))

  pub exact_on : (deeds : List Deed) (o : Option Link) (air : Air) → IsSound air → Follows o air → Exact deeds o air
  exact_on [] o air sound follows =
      sym (ap (λ (l : List Flight). over m position air.flights ++ l) (carried_none m position o) ∙ append-nil (over m position air.flights))
  exact_on (Deed.Sends from bytes ∷ deeds) o air sound follows =
      exact_sent from bytes deeds o air sound follows (λ p w. exact_on deeds p (sent from bytes air) (sound_done (Deed.Sends from bytes) air sound) w) (from == m) refl
  exact_on (Deed.Lands ∷ deeds) o air sound follows =
      exact_landed deeds o air.clock air.room air.links air.flights sound follows (λ air' s w. exact_on deeds o air' s w)
  exact_on (Deed.Passes moment ∷ deeds) o air sound follows =
      exact_on deeds o (gone_on moment air) (sound_done (Deed.Passes moment) air sound) (record {
        here = follows.here;
        near = all_weaker (Near m position (air.clock + delay_of m position o)) (Near m position ((gone_on moment air).clock + delay_of m position o))
            (λ f near over. omega (arith, near over)) air.flights follows.near;
      })
