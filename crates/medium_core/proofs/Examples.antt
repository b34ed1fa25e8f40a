-- Worked examples: the generator, what is lost, the order of arrival, room, and what breaks a law.
use Rattle.std.proofs.Common.{◌≡◌, ℕ, ◌+◌, ◌≤◌, true, false, List, [], ◌∷◌, length, map, refl, ap, arith, None, Some}
use Rattle.arrayvec.specs.ArrayVec.{ArrayVec}
use Rattle.medium_core.specs.declared.flight.Flight.{Flight}
use Rattle.medium_core.specs.declared.link.Fate.{Fate}
use Rattle.medium_core.specs.declared.link.Link.{Link}
use Rattle.medium_core.specs.declared.link.Loss.{Loss}
use Rattle.medium_core.specs.Air.{are_links, arrival, gone_on, landed, links_from, sent, still_air}
use Rattle.medium_core.specs.Flights.{IsSeenAs, with_flights}
use Rattle.medium_core.specs.Laws.{Deed, Frame, KeepsFaith, LosesEveryNth, all_done, but_every_nth, carried, flights_landed, landings, over, sent_by, through}
use Rattle.medium_core.specs.Links.{after_frame, fate, free_after, is_link, is_lost, next_draw}

abbrev link : ℕ → ℕ → Loss → Link
link to delay loss = record { to = to; delay = delay; loss = loss; last = Fate.Unused }

abbrev frame : ℕ → ArrayVec ℕ
frame byte = record { items = byte ∷ [] }

abbrev flight : ℕ → ℕ → Flight
flight due byte = record { due = due; from = 0; position = 0; to = 1; bytes = frame byte }

-- ---- the generator, and what it loses: seed 42 draws numbers whose upper 16 bits are first 37239 and then 14775

drawn : map next_draw (0 ∷ 1 ∷ 18446744073709551615 ∷ []) ≡ 1442695040888963407 ∷ 7806831264735756412 ∷ 13525302890751722018 ∷ []
drawn = refl

-- a chance is a number of 65,536ths: 0 loses none, 65,536 loses all
lots : map (λ (chance : ℕ). is_lost (link 1 3 (Loss.ByLot chance 42))) (0 ∷ 37239 ∷ 37240 ∷ 65536 ∷ []) ≡ false ∷ false ∷ true ∷ true ∷ []
lots = refl

-- ---- which frames are lost

abbrev after_each : List ℕ → Link → Link
after_each [] l = l
after_each (free ∷ frees) l = after_each frees (after_frame free l)

-- of six frames the third and the sixth are lost; which found room doesn't matter
thirds : map (λ (frees : List ℕ). is_lost (after_each frees (link 1 3 (Loss.EveryNth 3 2))))
    ([] ∷ (9 ∷ []) ∷ (9 ∷ 0 ∷ []) ∷ (9 ∷ 0 ∷ 9 ∷ []) ∷ (9 ∷ 0 ∷ 9 ∷ 9 ∷ []) ∷ (9 ∷ 0 ∷ 9 ∷ 9 ∷ 0 ∷ []) ∷ [])
    ≡ false ∷ false ∷ true ∷ false ∷ false ∷ true ∷ []
thirds = refl

-- the rule is checked before the room, and what the rule loses needs none
fates : (fate 1 (link 1 3 Loss.Never) ≡ Fate.Carried) × (fate 0 (link 1 3 Loss.Never) ≡ Fate.Full)
    × (fate 0 (link 1 3 (Loss.EveryNth 2 0)) ≡ Fate.Lost) × (free_after 5 (link 1 3 (Loss.EveryNth 2 0)) ≡ 5) × (free_after 5 (link 1 3 Loss.Never) ≡ 4)
fates = (refl, refl, refl, refl, refl)

-- no frame arrives at once; every 0th frame, and a chance above 65,536, are no rules
sound : map is_link (link 1 1 Loss.Never ∷ link 1 0 Loss.Never ∷ link 1 3 (Loss.EveryNth 1 0) ∷ link 1 3 (Loss.EveryNth 0 0)
    ∷ link 1 3 (Loss.EveryNth 2 2) ∷ link 1 3 (Loss.ByLot 65536 0) ∷ link 1 3 (Loss.ByLot 65537 0) ∷ [])
    ≡ true ∷ false ∷ true ∷ false ∷ false ∷ true ∷ false ∷ []
sound = refl

-- one unsound link among others counts
all_sound : (are_links ((link 1 1 Loss.Never ∷ []) ∷ [] ∷ []) ≡ true) × (are_links ([] ∷ (link 1 1 Loss.Never ∷ link 0 0 Loss.Never ∷ []) ∷ []) ≡ false)
all_sound = (refl, refl)

-- ---- the order of arrival: of one moment, the one that was sent first comes first

ordered : with_flights (flight 7 1 ∷ flight 3 2 ∷ flight 7 3 ∷ flight 5 4 ∷ []) [] ≡ flight 3 2 ∷ flight 5 4 ∷ flight 7 1 ∷ flight 7 3 ∷ []
ordered = refl

-- ---- a frame of mote 0, which motes 1 and 2 hear 3 and 1 ticks later

abbrev pair : List (List Link)
pair = (link 1 3 Loss.Never ∷ link 2 1 Loss.Never ∷ []) ∷ [] ∷ [] ∷ []

abbrev over_first : ℕ → ℕ → Flight
over_first clock byte = record { due = clock + 3; from = 0; position = 0; to = 1; bytes = frame byte }

abbrev over_second : ℕ → ℕ → Flight
over_second clock byte = record { due = clock + 1; from = 0; position = 1; to = 2; bytes = frame byte }

both_fly : (sent 0 (frame 5) (still_air 8 pair)).flights ≡ over_second 0 5 ∷ over_first 0 5 ∷ []
both_fly = refl

-- with room for one the first link has it, and the other says so
one_flies : ((sent 0 (frame 5) (still_air 1 pair)).flights ≡ over_first 0 5 ∷ [])
    × (map (λ (l : Link). l.last) (links_from 0 (sent 0 (frame 5) (still_air 1 pair))) ≡ Fate.Carried ∷ Fate.Full ∷ [])
one_flies = (refl, refl)

-- who has no link sends to nobody
unheard : (sent 1 (frame 5) (still_air 8 pair)).flights ≡ []
unheard = refl

-- the clock stops at each arrival; before its moment no frame arrives
stops : ((gone_on 9 (sent 0 (frame 5) (still_air 8 pair))).clock ≡ 1) × (arrival (sent 0 (frame 5) (still_air 8 pair)) ≡ None)
    × (arrival (gone_on 9 (sent 0 (frame 5) (still_air 8 pair))) ≡ Some (over_second 0 5))
    × ((gone_on 9 (landed (gone_on 9 (sent 0 (frame 5) (still_air 8 pair))))).clock ≡ 3)
stops = (refl, refl, refl, refl)

-- ---- laws, and what breaks them

abbrev deeds : List Deed
deeds = Deed.Sends 0 (frame 5) ∷ Deed.Passes 9 ∷ Deed.Lands ∷ Deed.Sends 0 (frame 6) ∷ []

-- over the second link the first frame landed and the second one flies
carried_in_order : (over 0 1 (flights_landed (landings deeds (still_air 8 pair))) ≡ over_second 0 5 ∷ [])
    × (over 0 1 (all_done deeds (still_air 8 pair)).flights ≡ over_second 1 6 ∷ [])
    × (carried 0 1 (Some (link 2 1 Loss.Never)) (sent_by 0 1 deeds (still_air 8 pair)) ≡ over_second 0 5 ∷ over_second 1 6 ∷ [])
carried_in_order = (refl, refl, refl)

abbrev two_sent : List Frame
two_sent = record { at = 0; bytes = frame 5; free = 8 } ∷ record { at = 1; bytes = frame 6; free = 8 } ∷ []

-- no frame is held back, doubled, late, out of order or of other bytes
broken : (wrong : List Flight) → wrong ≡ over_second 0 5 ∷ [] → wrong ≡ carried 0 1 (Some (link 2 1 Loss.Never)) two_sent → ⊥
broken wrong e h = absurd (cc)

doubled : over_second 0 5 ∷ over_second 0 5 ∷ over_second 1 6 ∷ [] ≡ carried 0 1 (Some (link 2 1 Loss.Never)) two_sent → ⊥
doubled h = absurd (cc)

turned : over_second 1 6 ∷ over_second 0 5 ∷ [] ≡ carried 0 1 (Some (link 2 1 Loss.Never)) two_sent → ⊥
turned h = let b : ◌≡◌ {A = List ℕ} (2 ∷ 1 ∷ []) (1 ∷ 2 ∷ []) = ap (map (λ (f : Flight). f.due)) h in absurd (cc)

late : over_second 1 5 ∷ over_second 1 6 ∷ [] ≡ carried 0 1 (Some (link 2 1 Loss.Never)) two_sent → ⊥
late h = let b : ◌≡◌ {A = List ℕ} (2 ∷ 2 ∷ []) (1 ∷ 2 ∷ []) = ap (map (λ (f : Flight). f.due)) h in absurd (cc)

-- where there is no link nothing flies
no_link : over_second 0 5 ∷ [] ≡ carried 1 0 None two_sent → ⊥
no_link h = absurd (cc)

-- of every second frame the second is lost, and no other; what found no room got lost beside that
abbrev three_sent : List Frame
three_sent = record { at = 0; bytes = frame 5; free = 8 } ∷ record { at = 1; bytes = frame 6; free = 8 } ∷ record { at = 2; bytes = frame 7; free = 0 } ∷ []

second_lost : (but_every_nth 2 1 three_sent ≡ record { at = 0; bytes = frame 5; free = 8 } ∷ [])
    × (through (link 1 3 (Loss.EveryNth 2 1)) three_sent ≡ record { at = 0; bytes = frame 5; free = 8 } ∷ [])
    × (through (link 1 3 (Loss.EveryNth 2 0)) three_sent ≡ record { at = 1; bytes = frame 6; free = 8 } ∷ [])
second_lost = (refl, refl, refl)

-- ---- each field of the laws holds what it says

-- with room for one there is never more than one in flight
at_most_one : KeepsFaith 1 pair deeds → length (all_done deeds (still_air 1 pair)).flights ≤ 1
at_most_one law = law.within

-- `every 1` loses each frame
each_lost : LosesEveryNth 1 (link 1 3 (Loss.EveryNth 1 0)) three_sent → through (link 1 3 (Loss.EveryNth 1 0)) three_sent ≡ []
each_lost law = law (omega arith) refl

-- a receiver sees the moment, the sender, itself and the bytes of a flight, no others
seen_later : IsSeenAs 4 0 1 (frame 5) (over_first 0 5) → ⊥
seen_later seen = let e = seen.is_due in absurd (cc)

seen_from_another : IsSeenAs 3 1 1 (frame 5) (over_first 0 5) → ⊥
seen_from_another seen = let e = seen.is_of in absurd (cc)

seen_for_another : IsSeenAs 3 0 2 (frame 5) (over_first 0 5) → ⊥
seen_for_another seen = let e = seen.is_for in absurd (cc)

seen_of_other_bytes : IsSeenAs 3 0 1 (frame 6) (over_first 0 5) → ⊥
seen_of_other_bytes seen = let e = ap (λ (v : ArrayVec ℕ). v.items) seen.holds in absurd (cc)
