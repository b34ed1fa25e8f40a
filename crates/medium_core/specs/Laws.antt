-- What the medium promises, over everything that happens to it.
use Rattle.std.specs.Prelude.{◌≡◌, ℕ, zero, suc, ◌+◌, ◌-◌, ◌%◌, ◌≤◌, ◌==◌, Bool, ◌&&◌, ◌||◌, List, [], ◌∷◌, ◌++◌, length, map, Option, None, Some, if◌then◌else◌}
use Rattle.std.specs.List.{AllByRecursion, filter}
use Rattle.arrayvec.specs.ArrayVec.{ArrayVec}
use Rattle.medium_core.specs.declared.flight.Flight.{Flight}
use Rattle.medium_core.specs.declared.link.Link.{Link}
use Rattle.medium_core.specs.declared.link.Loss.{Loss}
use Rattle.medium_core.specs.Air.{Air, arrival, flight_over, free_room, gone_on, landed, link_at, links_from, sent, still_air}
use Rattle.medium_core.specs.Links.{after_frame, free_after, is_lost}

-- what can happen to the medium
pub data Deed : Type 0 where
  Sends : (from : ℕ) (bytes : ArrayVec ℕ) → Deed
  -- the frame that arrives now, if one does, leaves it
  Lands : Deed
  -- the clock advances
  Passes : (moment : ℕ) → Deed

abbrev pub done : Deed → Air → Air
done (Deed.Sends from bytes) air = sent from bytes air
done Deed.Lands air = landed air
done (Deed.Passes moment) air = gone_on moment air

abbrev pub all_done : List Deed → Air → Air
all_done [] air = air
all_done (deed ∷ deeds) air = all_done deeds (done deed air)

-- a frame that was sent, and the room in flight when it reached the link in question
pub record Frame : Type 0 where
  pub at : ℕ
  pub bytes : ArrayVec ℕ
  pub free : ℕ

-- a frame that landed, and when
pub record Landing : Type 0 where
  pub at : ℕ
  pub flight : Flight

-- the room that is left once a frame was sent over the links before this position
abbrev pub free_at : ℕ → List Link → ℕ → ℕ
free_at free [] position = free
free_at free (link ∷ links) zero = free
free_at free (link ∷ links) (suc position) = free_at (free_after free link) links position

abbrev pub sent_in : ℕ → ℕ → Deed → Air → List Frame → List Frame
sent_in m position (Deed.Sends from bytes) air frames =
    if from == m then record { at = air.clock; bytes = bytes; free = free_at (free_room air) (links_from m air) position } ∷ frames else frames
sent_in m position _ air frames = frames

-- the frames that m sent, and when, as they reached its link in this position
abbrev pub sent_by : ℕ → ℕ → List Deed → Air → List Frame
sent_by m position [] air = []
sent_by m position (deed ∷ deeds) air = sent_in m position deed air (sent_by m position deeds (done deed air))

abbrev pub landing_at : ℕ → Option Flight → List Landing → List Landing
landing_at clock None landings = landings
landing_at clock (Some f) landings = record { at = clock; flight = f } ∷ landings

abbrev pub landed_in : Deed → Air → List Landing → List Landing
landed_in Deed.Lands air landings = landing_at air.clock (arrival air) landings
landed_in _ air landings = landings

-- the frames that landed, and when
abbrev pub landings : List Deed → Air → List Landing
landings [] air = []
landings (deed ∷ deeds) air = landed_in deed air (landings deeds (done deed air))

-- what gets through of the frames that are sent over a link: not those that its rule loses, nor those that find no room
abbrev pub through : Link → List Frame → List Frame
through link [] = []
through link (frame ∷ frames) =
    let others = through (after_frame frame.free link) frames in
    if is_lost link || frame.free == 0 then others else frame ∷ others

-- a frame that got through, as it is in flight over the link in this position of m's list
abbrev pub flown : ℕ → ℕ → Link → Frame → Flight
flown m position link frame = flight_over frame.at m frame.bytes position link

abbrev pub is_over : ℕ → ℕ → Flight → Bool
is_over m position flight = flight.from == m && flight.position == position

-- what is in flight, or landed, over the link in this position of m's list
abbrev pub over : ℕ → ℕ → List Flight → List Flight
over m position flights = filter (is_over m position) flights

abbrev pub flights_landed : List Landing → List Flight
flights_landed landings = map (λ (landing : Landing). landing.flight) landings

-- what the sender's frames become over this link, if there is one
abbrev pub carried : ℕ → ℕ → Option Link → List Frame → List Flight
carried m position None frames = []
carried m position (Some link) frames = map (flown m position link) (through link frames)

-- From still air on, whatever happens:
pub record KeepsFaith (room : ℕ) (links : List (List Link)) (deeds : List Deed) : Type 0 where
  -- over each link those that landed, and then those in flight, are the frames that its sender sent, in order, each once, except
  -- those that the link's rule loses and those that find no room. Where there is no link nothing flies
  pub exact : (m position : ℕ) →
      over m position (flights_landed (landings deeds (still_air room links))) ++ over m position (all_done deeds (still_air room links)).flights
      ≡ carried m position (link_at links m position) (sent_by m position deeds (still_air room links))
  -- each frame lands in its moment
  pub punctual : AllByRecursion (λ (landing : Landing). landing.at ≡ landing.flight.due) (landings deeds (still_air room links))
  -- none is in flight that should have landed
  pub pending : AllByRecursion (λ (f : Flight). (all_done deeds (still_air room links)).clock ≤ f.due)
      (all_done deeds (still_air room links)).flights
  -- and no more than find room
  pub within : length (all_done deeds (still_air room links)).flights ≤ room

-- those whose number isn't a multiple of n, where the first has number i, except those that find no room
abbrev pub but_every_nth : ℕ → ℕ → List Frame → List Frame
but_every_nth n i [] = []
but_every_nth n i (frame ∷ frames) =
    let others = but_every_nth n (i + 1) frames in
    if (i % n) == 0 || frame.free == 0 then others else frame ∷ others

-- a link that loses every n-th frame loses the n-th, the 2n-th and so on, and no other
abbrev pub LosesEveryNth : ℕ → Link → List Frame → Type 0
LosesEveryNth n link frames = 1 ≤ n → link.loss ≡ Loss.EveryNth n (n - 1) → through link frames ≡ but_every_nth n 1 frames
