-- Blocks that are apart share no byte of the arena, and each one's bytes are read from its part.
use Rattle.mmem_core.proofs.Words.{◌≡◌, ◌≢◌, ℕ, List, Option, Some, None, refl, ap, ◌∙◌, arith, option_map, number_of, Place, place_in, LieApart, extent_of, bytes_at_place, BlocksLieApart, HandleTable, IsWithin, region_of}
use Rattle.arena_core.specs.Code.Extents.{LiesIn, AreApart}
use Rattle.mmem_core.proofs.StoreLemmas.{block_in, get_or-blocks}
use Rattle.mmem_core.proofs.TableLemmas.{bytes_are}

module _ (table : HandleTable) (lie : LieApart table.places table.span.len) where
  inside : (i : ℕ) (place : Place) → place_in table.places i ≡ Some place → LiesIn table.span (extent_of table place)
  inside i place live = grind arith

  apart : (i j : ℕ) (one other : Place) → i ≢ j → place_in table.places i ≡ Some one → place_in table.places j ≡ Some other
      → AreApart (extent_of table one) (extent_of table other)
  apart i j one other ne live live' = grind arith

  module _ (bytes : List ℕ) (within : IsWithin table bytes) where
    read : (i : ℕ) (place : Option Place) → place_in table.places i ≡ place
        → block_in (region_of table bytes) place ≡ option_map (bytes_at_place table bytes) place
    read i None live = refl
    read i (Some place) live = ap Some (bytes_are table lie bytes within i place live)

    pub blocks_apart : BlocksLieApart table bytes
    blocks_apart =
        record {
          read = λ p h. get_or-blocks (region_of table bytes) table.places (number_of p h)
              ∙ read (number_of p h) (place_in table.places (number_of p h)) refl;
          inside = grind arith;
          apart = grind arith;
        }
