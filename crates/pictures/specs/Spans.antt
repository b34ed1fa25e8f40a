-- What leads from one row to a later one.
use Rattle.std.specs.Prelude.{◌≡◌, ⊤, ℕ, ◌<◌, Option, Some, None, All, length}
use Rattle.pictures.specs.declared.marks.Marks.{Marks}
use Rattle.pictures.specs.declared.marks.posts.Curve.{Curve}
use Rattle.pictures.specs.declared.marks.timers.Arming.{Arming}
use Rattle.pictures.specs.declared.memory.Stays.{Stays}
use Rattle.pictures.specs.declared.memory.stay.Stay.{Stay}

-- it ends in a later row, or not at all
abbrev pub EndsLater : ℕ → Option ℕ → Type 0
EndsLater first (Some last) = first < last
EndsLater first None = ⊤

-- an event is received in a later row than the one where it is posted
abbrev pub IsReceivedLater : Curve → Type 0
IsReceivedLater curve = curve.first < curve.last

abbrev pub ArmingEndsLater : Arming → Type 0
ArmingEndsLater arming = EndsLater arming.first arming.last

abbrev pub StayEndsLater : Stay → Type 0
StayEndsLater stay = EndsLater stay.first stay.last

-- the same for all blocks
pub record AllEndLater (stays : Stays) : Type 0 where
  pub managed : All StayEndsLater stays.managed.items
  pub heap : All StayEndsLater stays.heap.items
  pub used : All StayEndsLater stays.used.items
  pub linked : All StayEndsLater stays.linked.items

-- for each row a reply, if there is one, and a lateness; what leads on from a row ends in a later one
pub record AreMarks (rows : ℕ) (marks : Marks) : Type 0 where
  pub replies : length marks.replies.items ≡ rows
  pub lateness : length marks.lateness.items ≡ rows
  pub curves : All IsReceivedLater marks.curves.items
  pub armings : All ArmingEndsLater marks.armings.items
  pub stays : AllEndLater marks.stays
