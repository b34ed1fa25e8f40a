-- The free list has all chunks but the live blocks.
use Rattle.heap_core.proofs.Lemmas.Words.{◌≡◌, ℕ, ◌+◌, not, List, [], ◌∷◌, length, refl, arith, filter, Chunk, Region, is_a_name, blocks_in, free_chunks, gaps_among, unnamed, IsLaidOut, linked_of}

abbrev free_among : List Chunk → List Chunk
free_among chunks = filter (λ (chunk : Chunk). not (is_a_name chunk.owner)) chunks

count : (header : ℕ) (bytes : List ℕ) (base : ℕ) (chunks : List Chunk)
    → length (free_among chunks) ≡ length (unnamed (blocks_in header bytes base chunks)) + length (gaps_among chunks)
count header bytes base [] = refl
count header bytes base (chunk ∷ chunks) = grind (arith, count header bytes base chunks)

pub all_linked : (heap : Region) (bytes : List ℕ) → IsLaidOut heap bytes → linked_of heap ≡ length (free_chunks heap bytes)
all_linked heap bytes laid = grind (arith, count)
