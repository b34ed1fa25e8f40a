-- Which mote must be told the time.
use Rattle.std.proofs.Common.{◌≡◌, ℕ, ◌+◌, ◌<◌, List, [], ◌∷◌, length, arith, Bool, true, false, Option, Some, None, IfSome, nat_le, if◌then◌else◌}
use Rattle.network_session.specs.Alarms.{come_by, first_alarm, first_come, sooner}
use Rattle.network_session.specs.declared.alarm.Alarm.{Alarm}

-- the first alarm is one of the list
within_from : (i : ℕ) (moments : List ℕ) → IfSome (first_alarm i moments) (λ (a : Alarm). a.owner < i + length moments)
within_from i [] = tt
within_from i (moment ∷ moments) = by_option (first_alarm (i + 1) moments) (within_from (i + 1) moments)
  where
    by_option : (o : Option Alarm) → IfSome o (λ (a : Alarm). a.owner < (i + 1) + length moments) →
        (sooner (record { moment = moment; owner = i }) o).owner < i + length (moment ∷ moments)
    by_option None h = omega arith
    by_option (Some other) h = by_test (nat_le moment other.moment)
      where
        by_test : (b : Bool) → (if b then record { moment = moment; owner = i } else other).owner < i + length (moment ∷ moments)
        by_test true = omega arith
        by_test false = omega (arith, h)

pub come_within : (now m : ℕ) (moments : List ℕ) → Some m ≡ first_come now moments → m < length moments
come_within now m moments h = by_option (first_alarm 0 moments) (within_from 0 moments) h
  where
    by_option : (o : Option Alarm) → IfSome o (λ (a : Alarm). a.owner < 0 + length moments) → Some m ≡ come_by now o → m < length moments
    by_option None w e = absurd (cc)
    by_option (Some a) w e = by_test (nat_le a.moment now) e
      where
        by_test : (b : Bool) → Some m ≡ (if b then Some a.owner else None) → m < length moments
        by_test true e = let same : m ≡ a.owner = cc in omega (arith, same, w)
        by_test false e = absurd (cc)
