-- What a walk over the lines of a run finds are its flights.
use Rattle.std.proofs.Common.{◌≡◌, ◌∙◌, ◌+◌, ◌==◌, ◌&&◌, ℕ, zero, suc, Bool, true, false, List, [], ◌∷◌, ◌++◌, map, take, drop, flat_map, get_or, Option, Some, None, refl, sym, subst, arith, bytes_eq, if◌then◌else◌, add-one, All}
use Rattle.std.specs.Bool.{⊤}
use Rattle.std.specs.List.{AllByRecursion, list_any, position, slice_get, slice_index}
use Rattle.std.proofs.lemmas.Bool.{cases_eq}
use Rattle.std.proofs.lemmas.Bool.Decides.{nat_tests}
use Rattle.std.proofs.lemmas.List.Elements.{All-from_recursion}
use Rattle.std.proofs.lemmas.List.Quantifiers.{position-Some}
use Rattle.std.proofs.lemmas.Option.{get_or_from_slice_get}
use Rattle.std.proofs.lemmas.Slice.Eq.{bytes_eq-Decides}
use denote.Ref.{Bor}
use Rattle.pictures.specs.declared.transcript.line.Input.{Input}
use Rattle.pictures.specs.declared.transcript.line.Line.{Line}
use Rattle.pictures.specs.declared.transcript.line.Note.{Note}
use Rattle.pictures.specs.Network.Capture.{clock_after}
use Rattle.pictures.specs.Network.Flights.{IsEnded, IsFlight, clocks, is_way, leads}
use Rattle.pictures.specs.Network.InFlight.{Medium, after, after_line, after_line_of, arrived, arrived_at, at_end, at_start, dropped, ended, flights_by, frame_at, heard_by, is_heard, is_missed, is_of_line, missed_by, on_link, sent_by, without}
use Rattle.pictures.specs.declared.network.flights.Fate.{Fate}
use Rattle.pictures.specs.declared.network.flights.Flight.{Flight}
use Rattle.pictures.specs.declared.network.flights.Link.{Link}
use Rattle.pictures.specs.declared.network.line.NetworkLine.{NetworkLine}
use Rattle.pictures.specs.declared.network.walk.Pending.{Pending}
use Rattle.pictures.specs.declared.network.walk.SentFrame.{SentFrame}

-- ---- lists

module _ {X : Type 0} where
  each_append : (P : X → Type 0) (xs ys : List X) → AllByRecursion P xs → AllByRecursion P ys → AllByRecursion P (xs ++ ys)
  each_append P [] ys first second = second
  each_append P (x ∷ xs) ys first second = (first.0, each_append P xs ys first.1 second)

  each_take : (P : X → Type 0) (n : ℕ) (xs : List X) → AllByRecursion P xs → AllByRecursion P (take n xs)
  each_take P zero xs each = tt
  each_take P (suc n) [] each = tt
  each_take P (suc n) (x ∷ xs) each = (each.0, each_take P n xs each.1)

  each_drop : (P : X → Type 0) (n : ℕ) (xs : List X) → AllByRecursion P xs → AllByRecursion P (drop n xs)
  each_drop P zero xs each = each
  each_drop P (suc n) [] each = tt
  each_drop P (suc n) (x ∷ xs) each = each_drop P n xs each.1

  each_at : (P : X → Type 0) (xs : List X) (i : ℕ) (x : X) → AllByRecursion P xs → slice_get xs i ≡ Some x → P x
  each_at P [] i x each is = absurd (cc)
  each_at P (first ∷ xs) zero x each is = let same : first ≡ x = grind arith in subst P same each.0
  each_at P (first ∷ xs) (suc i) x each is = each_at P xs i x each.1 is

  at_drop : (xs : List X) (i : ℕ) (x : X) (rest : List X) → drop i xs ≡ x ∷ rest → slice_get xs i ≡ Some x
  at_drop [] zero x rest is = absurd (cc)
  at_drop [] (suc i) x rest is = absurd (cc)
  at_drop (first ∷ xs) zero x rest is = grind arith
  at_drop (first ∷ xs) (suc i) x rest is = at_drop xs i x rest is

  after_drop : (xs : List X) (i : ℕ) (x : X) (rest : List X) → drop i xs ≡ x ∷ rest → drop (suc i) xs ≡ rest
  after_drop [] zero x rest is = absurd (cc)
  after_drop [] (suc i) x rest is = absurd (cc)
  after_drop (first ∷ xs) zero x rest is = grind arith
  after_drop (first ∷ xs) (suc i) x rest is = after_drop xs i x rest is

  any_weaker : (p q : X → Bool) (xs : List X) → ((x : X) → p x ≡ true → q x ≡ true) → list_any p xs ≡ true → list_any q xs ≡ true
  any_weaker p q [] weaker is = absurd (cc)
  any_weaker p q (x ∷ xs) weaker is = grind (arith, cases_eq, weaker x, any_weaker p q xs weaker)

number_at : (xs : List ℕ) (i x : ℕ) (rest : List ℕ) → drop i xs ≡ x ∷ rest → slice_index xs i ≡ x
number_at [] zero x rest is = absurd (cc)
number_at [] (suc i) x rest is = absurd (cc)
number_at (first ∷ xs) zero x rest is = grind arith
number_at (first ∷ xs) (suc i) x rest is = number_at xs i x rest is

-- ---- what is true of a medium

module _ (links : List Link) (lines : List NetworkLine) where
  abbrev moment : ℕ → ℕ
  moment line = slice_index (clocks 0 lines) line

  abbrev IsTrueSent : SentFrame → Type 0
  IsTrueSent sent =
      (slice_get lines sent.line ≡ Some (NetworkLine.Mote sent.from (Line.Note (Note.Sent sent.digits)))) × (sent.clock ≡ moment sent.line)

  abbrev IsTrueLast : Option SentFrame → Type 0
  IsTrueLast None = ⊤
  IsTrueLast (Some sent) = IsTrueSent sent

  abbrev is_link_of : Pending → Link → Bool
  is_link_of frame link = link.from == frame.sent.from && (link.to == frame.to && link.delay == frame.delay)

  abbrev IsTruePending : Pending → Type 0
  IsTruePending frame = IsTrueSent frame.sent × (list_any (is_link_of frame) links ≡ true)

  record IsTrue (clock : ℕ) (medium : Medium) : Type 0 where
    links_are : medium.links ≡ links
    clock_is : medium.clock ≡ clock
    last : IsTrueLast medium.last
    pending : AllByRecursion IsTruePending medium.pending
    found : AllByRecursion (IsFlight links lines) medium.ended

  -- the time of a flight is that of its link
  is_way_of : (frame : Pending) (line : ℕ) (fate : Fate) → frame.sent.clock ≡ moment frame.sent.line
      → frame.sent.clock + frame.delay ≡ moment line → (link : Link) → is_link_of frame link ≡ true
      → is_way (clocks 0 lines) (ended frame line fate) link ≡ true
  is_way_of frame line fate clock due link is = grind (arith, nat_tests)

  leads_of : (frame : Pending) (line : ℕ) (fate : Fate) (link : Link) → is_link_of frame link ≡ true
      → leads (ended frame line fate) link ≡ true
  leads_of frame line fate link is = grind (arith, nat_tests)

  has_way : (frame : Pending) (line : ℕ) (fate : Fate) → IsTruePending frame → frame.sent.clock + frame.delay ≡ moment line
      → list_any (is_way (clocks 0 lines) (ended frame line fate)) links ≡ true
  has_way frame line fate is due =
      any_weaker (is_link_of frame) (is_way (clocks 0 lines) (ended frame line fate)) links
      (is_way_of frame line fate is.0.1 due) is.1

  under_way : (line : ℕ) (frame : Pending) → IsTruePending frame → IsFlight links lines (ended frame line Fate.UnderWay)
  under_way line frame is = record {
    digits = frame.sent.digits;
    is_sent = is.0.0;
    is_ended = any_weaker (is_link_of frame) (leads (ended frame line Fate.UnderWay)) links (leads_of frame line Fate.UnderWay) is.1;
  }

  -- a frame is sent
  put : (sent : SentFrame) → IsTrueSent sent → (some : List Link)
      → ((frame : Pending) → list_any (is_link_of frame) some ≡ true → list_any (is_link_of frame) links ≡ true)
      → AllByRecursion IsTruePending (flat_map (on_link sent) some)
  put sent is [] among = tt
  put sent is (link ∷ some) among =
      each_append IsTruePending (on_link sent link) (flat_map (on_link sent) some) (one (link.from == sent.from) refl)
      (put sent is some (λ frame there. among frame (grind (arith, cases_eq, there))))
    where
      one : (is_its : Bool) → (link.from == sent.from) ≡ is_its
          → AllByRecursion IsTruePending (if is_its then record { sent = sent; to = link.to; delay = link.delay } ∷ [] else [])
      one false same = tt
      one true same = ((is, among (record { sent = sent; to = link.to; delay = link.delay }) (grind (arith, nat_tests))), tt)

  sent_true : (clock line from : ℕ) (digits : Bor (List ℕ)) (medium : Medium) → moment line ≡ clock
      → slice_get lines line ≡ Some (NetworkLine.Mote from (Line.Note (Note.Sent digits))) → IsTrue clock medium
      → IsTrue clock (sent_by line from digits medium)
  sent_true clock line from digits medium now at is = record {
    links_are = is.links_are;
    clock_is = is.clock_is;
    last = (at, is.clock_is ∙ sym now);
    pending = each_append IsTruePending medium.pending _ is.pending
        (rw is.links_are (put (record { from = from; line = line; clock = medium.clock; digits = digits }) (at, is.clock_is ∙ sym now) links (λ frame there. there)));
    found = is.found;
  }

  -- ---- a flight ends

  each_without : (at : Option ℕ) (pending : List Pending) → AllByRecursion IsTruePending pending
      → AllByRecursion IsTruePending (without at pending)
  each_without None pending each = each
  each_without (Some i) pending each =
      each_append IsTruePending (take i pending) (drop (suc i) pending) (each_take IsTruePending i pending each)
      (each_drop IsTruePending (suc i) pending each)

  arrived_true : (clock line : ℕ) (fate : Fate) (at : Option ℕ) (medium : Medium)
      → ((frame : Pending) → frame_at at medium.pending ≡ Some frame → IsTruePending frame → IsFlight links lines (ended frame line fate))
      → IsTrue clock medium → IsTrue clock (arrived_at line fate at medium)
  arrived_true clock line fate at medium flies is = of (frame_at at medium.pending) refl
    where
      each : (frame : Pending) → frame_at at medium.pending ≡ Some frame → IsTruePending frame
      each frame there = is_pending at there
        where
          is_pending : (place : Option ℕ) → frame_at place medium.pending ≡ Some frame → IsTruePending frame
          is_pending None there = absurd (cc)
          is_pending (Some i) there = each_at IsTruePending medium.pending i frame is.pending there

      of : (frame : Option Pending) → frame_at at medium.pending ≡ frame
          → IsTrue clock (arrived line fate frame (record medium { pending = without at medium.pending }))
      of None there = record {
        links_are = is.links_are;
        clock_is = is.clock_is;
        last = is.last;
        pending = each_without at medium.pending is.pending;
        found = is.found;
      }
      of (Some frame) there = record {
        links_are = is.links_are;
        clock_is = is.clock_is;
        last = is.last;
        pending = each_without at medium.pending is.pending;
        found = each_append (IsFlight links lines) medium.ended _ is.found (flies frame there (each frame there), tt);
      }

  found_passes : (p : Pending → Bool) (pending : List Pending) (frame : Pending) → frame_at (position p pending) pending ≡ Some frame
      → p frame ≡ true
  found_passes p pending frame there = of (position p pending) refl there
    where
      of : (at : Option ℕ) → position p pending ≡ at → frame_at at pending ≡ Some frame → p frame ≡ true
      of None is there = absurd (cc)
      of (Some i) is there =
          let same : get_or pending i frame ≡ frame = get_or_from_slice_get pending i frame frame there in
          subst (λ one. p one ≡ true) same (position-Some p pending i frame is).1

  heard_true : (clock line to : ℕ) (digits : Bor (List ℕ)) (medium : Medium) → moment line ≡ clock
      → slice_get lines line ≡ Some (NetworkLine.Mote to (Line.Input (Input.Frame digits))) → IsTrue clock medium
      → IsTrue clock (heard_by line to digits medium)
  heard_true clock line to digits medium now at is =
      arrived_true clock line Fate.Heard (position (is_heard medium.clock to digits) medium.pending) medium flies is
    where
      flies : (frame : Pending) → frame_at (position (is_heard medium.clock to digits) medium.pending) medium.pending ≡ Some frame
          → IsTruePending frame → IsFlight links lines (ended frame line Fate.Heard)
      flies frame there one =
          let passes : is_heard medium.clock to digits frame ≡ true = found_passes _ medium.pending frame there in
          let receiver : frame.to ≡ to = grind (arith, nat_tests) in
          let due : frame.sent.clock + frame.delay ≡ moment line = grind (arith, nat_tests, is.clock_is) in
          let equal : bytes_eq frame.sent.digits.now digits.now ≡ true = grind (arith, nat_tests) in
          let same : digits.now ≡ frame.sent.digits.now = sym ((bytes_eq-Decides frame.sent.digits.now digits.now).0 equal) in
          record {
            digits = frame.sent.digits;
            is_sent = one.0.0;
            is_ended = (digits, rw receiver at, same, has_way frame line Fate.Heard one due);
          }

  missed_true : (clock line from to : ℕ) (medium : Medium) → moment line ≡ clock
      → slice_get lines line ≡ Some (NetworkLine.Missed from to) → IsTrue clock medium → IsTrue clock (missed_by line from to medium)
  missed_true clock line from to medium now at is =
      arrived_true clock line Fate.Missed (position (is_missed medium.clock from to) medium.pending) medium flies is
    where
      flies : (frame : Pending) → frame_at (position (is_missed medium.clock from to) medium.pending) medium.pending ≡ Some frame
          → IsTruePending frame → IsFlight links lines (ended frame line Fate.Missed)
      flies frame there one =
          let passes : is_missed medium.clock from to frame ≡ true = found_passes _ medium.pending frame there in
          let sender : frame.sent.from ≡ from = grind (arith, nat_tests) in
          let receiver : frame.to ≡ to = grind (arith, nat_tests) in
          let due : frame.sent.clock + frame.delay ≡ moment line = grind (arith, nat_tests, is.clock_is) in
          record {
            digits = frame.sent.digits;
            is_sent = one.0.0;
            is_ended = (rw (sender, receiver) at, has_way frame line Fate.Missed one due);
          }

  -- the frame that was sent last isn't carried
  dropped_true : (clock line from to : ℕ) (fate : Fate) (last : Option SentFrame) (medium : Medium)
      → ((digits : Bor (List ℕ)) (sent : ℕ)
      → IsEnded links lines (record { from = from; to = to; sent = sent; ended = line; fate = fate }) digits fate)
      → IsTrueLast last → IsTrue clock medium → IsTrue clock (dropped line from to fate last medium)
  dropped_true clock line from to fate None medium ends its is = is
  dropped_true clock line from to fate (Some last) medium ends its is = of (last.from == from) refl
    where
      flight : Flight
      flight = record { from = from; to = to; sent = last.line; ended = line; fate = fate }

      of : (is_its : Bool) → (last.from == from) ≡ is_its → IsTrue clock (
          if is_its then record medium {
            pending = without (position (is_of_line last.line to) medium.pending) medium.pending;
            ended = medium.ended ++ record { from = from; to = to; sent = last.line; ended = line; fate = fate } ∷ [];
          }
          else medium)
      of false same = is
      of true same =
          let sender : last.from ≡ from = grind (arith, nat_tests) in
          record {
            links_are = is.links_are;
            clock_is = is.clock_is;
            last = is.last;
            pending = each_without (position (is_of_line last.line to) medium.pending) medium.pending is.pending;
            found = each_append (IsFlight links lines) medium.ended _ is.found
                (record { digits = last.digits; is_sent = rw (sym sender) its.0; is_ended = ends last.digits last.line }, tt);
          }

  -- ---- line by line

  after_mote_line : (clock line mote : ℕ) (read : Line) (medium : Medium) → moment line ≡ clock
      → slice_get lines line ≡ Some (NetworkLine.Mote mote read) → IsTrue clock medium → IsTrue clock (after_line_of line mote read medium)
  after_mote_line clock line mote (Line.Input (Input.Tick ticks)) medium now at is = is
  after_mote_line clock line mote (Line.Input (Input.Serial digits)) medium now at is = is
  after_mote_line clock line mote (Line.Input (Input.Frame digits)) medium now at is = heard_true clock line mote digits medium now at is
  after_mote_line clock line mote (Line.Turn turn) medium now at is = is
  after_mote_line clock line mote (Line.Note (Note.Lost reason)) medium now at is = is
  after_mote_line clock line mote (Line.Note (Note.Sent digits)) medium now at is = sent_true clock line mote digits medium now at is
  after_mote_line clock line mote (Line.Ending ending) medium now at is = is

  after_one : (clock line : ℕ) (read : NetworkLine) (medium : Medium) → moment line ≡ clock_after clock read
      → slice_get lines line ≡ Some read → IsTrue clock medium → IsTrue (clock_after clock read) (after_line line read medium)
  after_one clock line (NetworkLine.Clock next) medium now at is =
      record { links_are = is.links_are; clock_is = refl; last = is.last; pending = is.pending; found = is.found }
  after_one clock line (NetworkLine.Mote mote read) medium now at is = after_mote_line clock line mote read medium now at is
  after_one clock line (NetworkLine.Lost from to) medium now at is =
      dropped_true clock line from to Fate.Lost medium.last medium (λ digits sent. at) is.last is
  after_one clock line (NetworkLine.Full from to) medium now at is =
      dropped_true clock line from to Fate.Full medium.last medium (λ digits sent. at) is.last is
  after_one clock line (NetworkLine.Missed from to) medium now at is = missed_true clock line from to medium now at is
  after_one clock line (NetworkLine.Unheard mote) medium now at is = is
  after_one clock line (NetworkLine.Ending ending) medium now at is = is

  after_all : (clock line : ℕ) (rest : List NetworkLine) (medium : Medium) → drop line lines ≡ rest
      → drop line (clocks 0 lines) ≡ clocks clock rest → IsTrue clock medium
      → AllByRecursion IsTruePending (after line rest medium).pending
      × AllByRecursion (IsFlight links lines) (after line rest medium).ended
  after_all clock line [] medium from moments is = (is.pending, is.found)
  after_all clock line (read ∷ rest) medium from moments is =
      let next : line + 1 ≡ suc line = add-one line in
      let is_next = after_one clock line read medium (number_at (clocks 0 lines) line _ _ moments) (at_drop lines line read rest from) is in
      after_all (clock_after clock read) (line + 1) rest (after_line line read medium)
      (rw next (after_drop lines line read rest from))
      (rw next (after_drop (clocks 0 lines) line _ _ moments)) is_next

  each_under_way : (line : ℕ) (pending : List Pending) → AllByRecursion IsTruePending pending
      → AllByRecursion (IsFlight links lines) (map (λ frame. ended frame line Fate.UnderWay) pending)
  each_under_way line [] each = tt
  each_under_way line (frame ∷ pending) each = (under_way line frame each.0, each_under_way line pending each.1)

  -- all that a walk finds
  pub are_flights : (count : ℕ) → All (IsFlight links lines) (flights_by count (at_end links lines))
  are_flights count =
      let at_first : IsTrue 0 (at_start links) = record { links_are = refl; clock_is = refl; last = tt; pending = tt; found = tt } in
      let are = after_all 0 0 lines (at_start links) refl refl at_first in
      All-from_recursion (IsFlight links lines) _ (each_append (IsFlight links lines) _ _ are.1 (each_under_way count _ are.0))
