-- Examples: what ends in the row where it begins, a clock outside, blocks with room enough, events for all, and changes that go back.
use Rattle.std.proofs.Common.{◌≡◌, ◌∙◌, ◌<◌, ◌≤◌, ℕ, List, [], ◌∷◌, ◌++◌, codes, drop, length, Some, None, Option, ap, refl, sym, arith}
use Rattle.pictures.specs.Clocks.{LieBetween}
use Rattle.pictures.specs.Dump.{AreChanges, IsDump, time_line, value_line}
use Rattle.pictures.specs.Posts.{Posts}
use Rattle.pictures.specs.Room.{IsFirstExceeding}
use Rattle.pictures.specs.Rows.{IsPlain}
use Rattle.pictures.specs.Spans.{AreMarks}
use Rattle.pictures.specs.declared.marks.Marks.{Marks}
use Rattle.pictures.specs.declared.marks.posts.Curve.{Curve}
use Rattle.pictures.specs.declared.marks.timers.Arming.{Arming}
use Rattle.pictures.specs.declared.memory.stay.Stay.{Stay}
use Rattle.pictures.specs.declared.rows.row.Show.{Show}

abbrev lines : List (List ℕ)
lines = codes "4 synch 129 - -> wait" ∷ codes "> tick 5" ∷ codes "> serial 61" ∷ codes "> tick 4" ∷ []

-- nothing from before the first clock
none_before : LieBetween lines 5 9 (record { first = 0; end = 4 }) → ⊥
none_before is = let least : 5 ≤ 0 = (is.within 0 (omega arith) (omega arith)).0 in absurd (omega arith)

ticks_plain : IsPlain (record { first = 0; count = 1; show = Show.Ticks }) → ⊥
ticks_plain plain = absurd (let show = plain.1 in cc)

abbrev ended : Stay
ended = record { pid = 4; name = 0; at = 8; taken = 4; size = 3; first = 3; last = Some 3 }

abbrev curve : Curve
curve = record { from = 4; first = 3; to = 5; last = 3 }

abbrev arming : Arming
arming = record { pid = 4; timer = 0; first = 3; last = Some 3; due = 0; received = None }

-- nothing ends in the row where it begins
module _ (rows : ℕ) (marks : Marks) (are : AreMarks rows marks) where
  no_curve : marks.curves.items ≡ curve ∷ [] → ⊥
  no_curve one = let later : 3 < 3 = rw one at are.curves 0 curve (omega arith) in absurd (omega arith)

  no_arming : marks.armings.items ≡ arming ∷ [] → ⊥
  no_arming one = let later : 3 < 3 = rw one at are.armings 0 arming (omega arith) in absurd (omega arith)

  no_managed : marks.stays.managed.items ≡ ended ∷ [] → ⊥
  no_managed one = let later : 3 < 3 = rw one at are.stays.managed 0 ended (omega arith) in absurd (omega arith)

  no_heap : marks.stays.heap.items ≡ ended ∷ [] → ⊥
  no_heap one = let later : 3 < 3 = rw one at are.stays.heap 0 ended (omega arith) in absurd (omega arith)

  no_used : marks.stays.used.items ≡ ended ∷ [] → ⊥
  no_used one = let later : 3 < 3 = rw one at are.stays.used 0 ended (omega arith) in absurd (omega arith)

  no_linked : marks.stays.linked.items ≡ ended ∷ [] → ⊥
  no_linked one = let later : 3 < 3 = rw one at are.stays.linked 0 ended (omega arith) in absurd (omega arith)

  -- each row has its reply and its lateness
  for_each_row : marks.replies.items ≡ [] → rows ≡ 0
  for_each_row none = sym are.replies ∙ ap length none

  late_in_each_row : marks.lateness.items ≡ [] → rows ≡ 0
  late_in_each_row none = sym are.lateness ∙ ap length none

-- a block that reaches beyond 10 bytes, in the third row of them
another_row : IsFirstExceeding 10 (ended ∷ []) (Some 2) → ⊥
another_row is =
    let first : is.0.0 ≡ 0 = omega (arith, is.0.2) in
    let there : ended ≡ is.0.1 = rw first at is.0.3 in
    let row : ◌≡◌ {A = ℕ} 3 2 = ap (λ (one : Stay). one.first) there ∙ is.0.4.1 in absurd (omega (arith, row))

enough_room : IsFirstExceeding 12 (ended ∷ []) (Some 3) → ⊥
enough_room is =
    let first : is.0.0 ≡ 0 = omega (arith, is.0.2) in
    let there : ended ≡ is.0.1 = rw first at is.0.3 in
    absurd (omega (arith, is.0.4.0, ap (λ (one : Stay). one.at) there, ap (λ (one : Stay). one.taken) there))

abbrev first_byte : List ℕ → ℕ
first_byte [] = 0
first_byte (byte ∷ bytes) = byte

-- an event for one process isn't one for all
not_to_all : (call event : List ℕ) (to : Option ℕ) → Posts call to event → call ≡ codes "post 4 140 -" → to ≡ None → ⊥
not_to_all call event to (Posts.to_all text) is none = absurd (omega (arith, ap first_byte is))
not_to_all call event to (Posts.to_one word text first) is none = absurd (cc)

-- what follows is the event
all_receive : (call event : List ℕ) (to : Option ℕ) → Posts call to event → call ≡ codes "broadcast 140 -" → event ≡ codes "140 -"
all_receive call event to (Posts.to_all text) is = ap (drop 10) is
all_receive call event to (Posts.to_one word text first) is = absurd (omega (arith, ap first_byte is))

one_receives : (call event : List ℕ) (to : Option ℕ) → Posts call to event → call ≡ codes "post 4 140 -"
    → (to ≡ Some 4) × (event ≡ codes "140 -")
one_receives call event to (Posts.to_all text) is = absurd (omega (arith, ap first_byte is))
one_receives call event to (Posts.to_one word text first) is =
    let rest : word ++ codes " " ++ text ≡ codes "4 140 -" = ap (drop 5) is in
    let four : word ≡ codes "4" = rw rest at first in
    let others : codes "4 " ++ text ≡ codes "4 140 -" = rw four at rest in
    (rw four refl, ap (drop 2) others)

-- the signals of changes, and where they begin
abbrev signals : {first time : ℕ} {text : List ℕ} → AreChanges first time text → List ℕ
signals (AreChanges.begun time) = []
signals (AreChanges.set before value signal few) = signal ∷ signals before
signals (AreChanges.later before next later) = signals before

abbrev begins : {first time : ℕ} {text : List ℕ} → AreChanges first time text → ℕ
begins (AreChanges.begun time) = time
begins (AreChanges.set before value signal few) = begins before
begins (AreChanges.later before next later) = begins before

not_back : {first time : ℕ} {text : List ℕ} (changes : AreChanges first time text) → begins changes ≤ time
not_back (AreChanges.begun time) = omega arith
not_back (AreChanges.set before value signal few) = not_back before
not_back (AreChanges.later {first} {time} before next later) = omega (arith, not_back before, later)

no_values : {first time : ℕ} {text : List ℕ} → AreChanges first time text → text ≡ [] → ⊥
no_values (AreChanges.begun time) none = absurd (cc)
no_values (AreChanges.set {first} {time} {before} changes value signal few) none = ends before none
  where
    ends : (front : List ℕ) → front ++ value_line value signal ≡ [] → ⊥
    ends [] same = absurd (cc)
    ends (byte ∷ front) same = absurd (cc)
no_values (AreChanges.later {first} {time} {before} changes next later) none = ends before none
  where
    ends : (front : List ℕ) → front ++ time_line next ≡ [] → ⊥
    ends [] same = absurd (cc)
    ends (byte ∷ front) same = absurd (cc)

module _ (lines : List (List ℕ)) (from to : ℕ) (dump : List ℕ) (is : IsDump lines from to dump) where
  no_dump : is.values ≡ [] → ⊥
  no_dump none = no_values is.are_changes none

  ends_declarations : is.declarations ≡ [] → dump ≡ codes "$enddefinitions $end\n" ++ is.values
  ends_declarations none = rw none at is.whole
