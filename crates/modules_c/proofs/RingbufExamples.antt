-- Rings and the queues that they stand for, and malformed rings.
use Rattle.std.proofs.Common.{◌≡◌, ℕ, List, [], ◌∷◌, replicate, refl, arith}
use Rattle.modules_c.specs.Ringbuf.Queues.{IsRing, queued, room}

abbrev four : List ℕ
four = 10 ∷ 20 ∷ 30 ∷ 40 ∷ []

in_line : queued four 3 1 ≡ 20 ∷ 30 ∷ []
in_line = refl

around_the_end : queued four 1 3 ≡ 40 ∷ 10 ∷ []
around_the_end = refl

empty : queued four 2 2 ≡ []
empty = refl

-- three of four positions: one stays empty
full : queued four 0 1 ≡ 20 ∷ 30 ∷ 40 ∷ []
full = refl

three_fit : room four ≡ 3
three_fit = refl

last_place : IsRing four 3 3
last_place = record { size = omega arith; put_inside = omega arith; get_inside = omega arith }

one_place : IsRing (7 ∷ []) 0 0
one_place = record { size = omega arith; put_inside = omega arith; get_inside = omega arith }

put_behind_the_end : IsRing four 4 0 → ⊥
put_behind_the_end ring = omega (arith, ring.put_inside)

get_behind_the_end : IsRing four 0 4 → ⊥
get_behind_the_end ring = omega (arith, ring.get_inside)

no_places : IsRing [] 0 0 → ⊥
no_places ring = omega (arith, ring.put_inside)

-- no byte can encode the last position
too_many_places : IsRing (replicate 257 0) 0 0 → ⊥
too_many_places ring = omega (arith, ring.size)
