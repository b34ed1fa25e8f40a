-- The medium as a machine of lists.
use Rattle.std.specs.Prelude.{ℕ, ◌+◌, ◌-◌, Bool, ◌&&◌, List, [], ◌∷◌, ◌++◌, drop, length, max, min, slice_get, slice_index_or, slice_set, Option, None, Some, if◌then◌else◌, nat_le, nat_lt}
use Rattle.std.specs.List.{list_all}
use Rattle.arrayvec.specs.ArrayVec.{ArrayVec}
use Rattle.medium_core.specs.declared.flight.Flight.{Flight}
use Rattle.medium_core.specs.declared.link.Fate.{Fate}
use Rattle.medium_core.specs.declared.link.Link.{Link}
use Rattle.medium_core.specs.Flights.{with_flights}
use Rattle.medium_core.specs.Links.{after_frame, fate, free_after, is_link}

pub record Air : Type 0 where
  pub clock : ℕ
  -- the largest number of frames in flight
  pub room : ℕ
  -- those of mote 0, then those of mote 1, and so on
  pub links : List (List Link)
  -- the next to arrive first
  pub flights : List Flight

-- nothing was sent so far
abbrev pub still_air : ℕ → List (List Link) → Air
still_air room links = record { clock = 0; room = room; links = links; flights = [] }

abbrev pub are_links : List (List Link) → Bool
are_links links = list_all (list_all is_link) links

abbrev pub links_from : ℕ → Air → List Link
links_from from air = slice_index_or air.links from []

-- the link in this position of the sender's list
abbrev pub link_at : List (List Link) → ℕ → ℕ → Option Link
link_at links from position = slice_get (slice_index_or links from []) position

-- with one more link of this mote, after its other ones
abbrev pub with_link : ℕ → Link → Air → Air
with_link from link air = record air { links = slice_set air.links from (links_from from air ++ link ∷ []) }

-- there is a list for it, and it is a link
abbrev pub may_add : ℕ → Link → Air → Bool
may_add from link air = nat_lt from (length air.links) && is_link link

-- the number of further frames that find room in flight
abbrev pub free_room : Air → ℕ
free_room air = air.room - length air.flights

-- a frame in flight over the link in this position of the sender's list
abbrev pub flight_over : ℕ → ℕ → ArrayVec ℕ → ℕ → Link → Flight
flight_over clock from bytes position link =
    record { due = clock + link.delay; from = from; position = position; to = link.to; bytes = bytes }

abbrev pub if_carried : Fate → Flight → List Flight → List Flight
if_carried Fate.Carried f others = f ∷ others
if_carried _ f others = others

-- what a frame puts in flight: one over each of these links that carries it
abbrev pub begun : ℕ → ℕ → ℕ → ArrayVec ℕ → ℕ → List Link → List Flight
begun free clock from bytes position [] = []
begun free clock from bytes position (link ∷ links) =
    if_carried (fate free link) (flight_over clock from bytes position link) (begun (free_after free link) clock from bytes (position + 1) links)

-- the links after it
abbrev pub after_frames : ℕ → List Link → List Link
after_frames free [] = []
after_frames free (link ∷ links) = after_frame free link ∷ after_frames (free_after free link) links

-- a frame is sent
abbrev pub sent : ℕ → ArrayVec ℕ → Air → Air
sent from bytes air =
    record air {
      links = slice_set air.links from (after_frames (free_room air) (links_from from air));
      flights = with_flights (begun (free_room air) air.clock from bytes 0 (links_from from air)) air.flights;
    }

abbrev pub arrival_in : ℕ → List Flight → Option Flight
arrival_in clock [] = None
arrival_in clock (f ∷ flights) = if nat_le f.due clock then Some f else None

-- the frame that arrives now, if one does
abbrev pub arrival : Air → Option Flight
arrival air = arrival_in air.clock air.flights

abbrev pub without : Option Flight → Air → Air
without None air = air
without (Some f) air = record air { flights = drop 1 air.flights }

abbrev pub landed : Air → Air
landed air = without (arrival air) air

-- the moment, but no later than the next arrival
abbrev pub until : List Flight → ℕ → ℕ
until [] moment = moment
until (f ∷ flights) moment = min f.due moment

-- the clock advances to the moment, or only to the next arrival
abbrev pub gone_on : ℕ → Air → Air
gone_on moment air = record air { clock = max air.clock (until air.flights moment) }
