-- Worked examples: the first of the earliest moment, and whether that has come.
use Rattle.std.proofs.Common.{◌≡◌, ℕ, [], ◌∷◌, refl, map, None, Some}
use Rattle.network_session.specs.Alarms.{earliest_in, first_alarm, first_come}

firsts : (first_alarm 0 [] ≡ None) × (first_alarm 0 (7 ∷ 3 ∷ 5 ∷ 3 ∷ []) ≡ Some (record { moment = 3; owner = 1 }))
    × (first_alarm 4 (7 ∷ 9 ∷ []) ≡ Some (record { moment = 7; owner = 4 }))
firsts = (refl, refl, refl)

-- an alarm has come at its moment, not before
come : map (λ (now : ℕ). first_come now (7 ∷ 3 ∷ 5 ∷ 3 ∷ [])) (2 ∷ 3 ∷ 9 ∷ []) ≡ None ∷ Some 1 ∷ Some 1 ∷ []
come = refl

limited : map (λ (limit : ℕ). earliest_in limit (7 ∷ 3 ∷ [])) (2 ∷ 3 ∷ 9 ∷ []) ≡ 2 ∷ 3 ∷ 3 ∷ []
limited = refl

unset : earliest_in 9 [] ≡ 9
unset = refl
