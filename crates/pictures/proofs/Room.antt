-- One more block, with or without room.
use Rattle.std.proofs.Common.{◌≡◌, ◌∙◌, ◌<◌, ◌≤◌, ◌+◌, ◌-◌, ◌^◌, inl, inr, ℕ, min, Option, Some, None, unwrap_or, List, [], ◌∷◌, ◌++◌, All, Any, length, take, get_or, refl, arith}
use Rattle.std.proofs.lemmas.List.{take_more, length-append, get_or_append_left}
use Rattle.std.proofs.lemmas.Bool.{cases_lt}
use Rattle.std.proofs.lemmas.List.Elements.{All-push, All-weaker}
use Rattle.std.proofs.lemmas.List.Quantifiers.{Any-push}
use Rattle.pictures.specs.declared.memory.stay.Stay.{Stay}
use Rattle.pictures.specs.Room.{Exceeds, IsFirstExceeding}

module _ (size : ℕ) where
  abbrev HasRoom : Stay → Type 0
  HasRoom stay = stay.at + stay.taken ≤ size

  abbrev BeginsIn : ℕ → Stay → Type 0
  BeginsIn row stay = Exceeds size stay × (stay.first ≡ row)

  abbrev BeginsFrom : ℕ → Stay → Type 0
  BeginsFrom row stay = Exceeds size stay → row ≤ stay.first

  still_any : (row : ℕ) (stays : List Stay) (stay : Stay) → Any (BeginsIn row) stays → Any (BeginsIn row) (stays ++ stay ∷ [])
  still_any row stays stay (k, one, inside, is, begins) =
      (k, one, omega (arith, inside, length-append stays (stay ∷ [])), get_or_append_left stays (stay ∷ []) one k inside ∙ is, begins)

  fits : (stays : List Stay) (stay : Stay) (first : Option ℕ) → IsFirstExceeding size stays first → stay.at + stay.taken ≤ size
      → IsFirstExceeding size (stays ++ stay ∷ []) first
  fits stays stay None is room = All-push HasRoom stays stay is room
  fits stays stay (Some row) is room =
      (still_any row stays stay is.0, All-push (BeginsFrom row) stays stay is.1 (λ beyond. absurd (omega (arith, beyond, room))))

  exceeds : (stays : List Stay) (stay : Stay) (first : Option ℕ) → IsFirstExceeding size stays first → Exceeds size stay
      → IsFirstExceeding size (stays ++ stay ∷ []) (Some (min (unwrap_or first stay.first) stay.first))
  exceeds stays stay None is beyond =
      let least : min stay.first stay.first ≡ stay.first = omega arith in
      let before : All (BeginsFrom stay.first) stays =
      All-weaker HasRoom (BeginsFrom stay.first) (λ other room beyond. absurd (omega (arith, room, beyond))) stays is in
      rw least (
        Any-push (BeginsIn stay.first) stays stay (beyond, refl),
        All-push (BeginsFrom stay.first) stays stay before (λ _. omega arith),
      )
  exceeds stays stay (Some row) is beyond = elim (cases_lt row stay.first) [
    | inl later ↦
        let least : min row stay.first ≡ row = omega (arith, later) in
        rw least (still_any row stays stay is.0, All-push (BeginsFrom row) stays stay is.1 (λ _. omega (arith, later)))
    | inr sooner ↦
        let least : min row stay.first ≡ stay.first = omega (arith, sooner) in
        let before : All (BeginsFrom stay.first) stays =
        All-weaker (BeginsFrom row) (BeginsFrom stay.first) (λ other from beyond. omega (arith, from beyond, sooner)) stays is.1 in
        rw least (
          Any-push (BeginsIn stay.first) stays stay (beyond, refl),
          All-push (BeginsFrom stay.first) stays stay before (λ _. omega arith),
        )
  ]

  pub fits_more : (stays : List Stay) (index : ℕ) (stay : Stay) (first : Option ℕ) (end : ℕ) → index < length stays
      → IsFirstExceeding size (take index stays) first
      → end ≡ min ((get_or stays index stay).at + (get_or stays index stay).taken) (2 ^ 64 - 1) → end ≤ size → size < 2 ^ 32
      → IsFirstExceeding size (take (index + 1) stays) first
  fits_more stays index stay first end inside is sum room small =
      rw (take_more stays index stay inside) (fits (take index stays) (get_or stays index stay) first is (omega (arith, sum, room, small)))

  pub exceeds_more : (stays : List Stay) (index : ℕ) (stay : Stay) (first : Option ℕ) (end : ℕ) → index < length stays
      → IsFirstExceeding size (take index stays) first
      → end ≡ min ((get_or stays index stay).at + (get_or stays index stay).taken) (2 ^ 64 - 1) → size < end
      → IsFirstExceeding size (take (index + 1) stays)
      (Some (min (unwrap_or first (get_or stays index stay).first) (get_or stays index stay).first))
  exceeds_more stays index stay first end inside is sum beyond =
      rw (take_more stays index stay inside) (exceeds (take index stays) (get_or stays index stay) first is (omega (arith, sum, beyond)))
