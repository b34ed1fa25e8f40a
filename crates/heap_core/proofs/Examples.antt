-- Blocks in order, blocks out of order, and blocks that are apart.
use Rattle.heap_core.proofs.Lemmas.Words.{◌≡◌, ◌≢◌, ℕ, ◌+◌, ◌≤◌, ◌⊎◌, inl, inr, List, [], ◌∷◌, length, sym, subst, arith, IsName, Span, Contents, Extent, AreApart, heap_of, KeepsToSpan, Block, HeapStore, LieApart, live_block, BlocksLieApart, Some}
use Rattle.heap_core.specs.declared.heap.Heap.{Heap}

block_at : ℕ → ℕ → List ℕ → Block
block_at at room bytes = record { name = 16; at = at; room = room; bytes = bytes }

-- a region of 64 bytes, with headers of 8
region : List Block → HeapStore
region blocks = record { size = 64; header = 8; blocks = blocks }

-- two blocks, and a gap of 16 between them
in_order : LieApart (region (block_at 0 8 (7 ∷ []) ∷ block_at 32 24 (1 ∷ 2 ∷ 3 ∷ []) ∷ []))
unfolding region block_at
in_order = (omega arith, omega arith, (omega arith, omega arith, omega arith))

more_bytes_than_room : LieApart (region (block_at 0 2 (1 ∷ 2 ∷ 3 ∷ []) ∷ [])) → ⊥
unfolding region block_at
more_bytes_than_room lie = omega (arith, lie)

-- the second begins within the first
overlapping : LieApart (region (block_at 0 8 [] ∷ block_at 12 8 [] ∷ [])) → ⊥
unfolding region block_at
overlapping lie = omega (arith, lie)

higher_one_first : LieApart (region (block_at 32 8 [] ∷ block_at 0 8 [] ∷ [])) → ⊥
unfolding region block_at
higher_one_first lie = omega (arith, lie)

past_the_end : LieApart (region (block_at 48 12 [] ∷ [])) → ⊥
unfolding region block_at
past_the_end lie = omega (arith, lie)

-- the bytes after a block's header
abbrev behind_header : Heap → Block → Extent
behind_header heap block = record { at = heap.span.at + block.at + heap.header; len = length block.bytes }

-- two blocks share no byte
bytes_apart : (heap : Heap) (bytes : List ℕ) → BlocksLieApart heap bytes → (p h q k : ℕ) (one other : Block) → IsName p h → IsName q k
    → (p ≢ q) ⊎ (h ≢ k)
    → live_block p h (heap_of heap bytes) ≡ Some one → live_block q k (heap_of heap bytes) ≡ Some other
    → AreApart (behind_header heap one) (behind_header heap other)
bytes_apart heap bytes lie p h q k one other name name' differ live live' =
    let room = lie.room p h one live in let room' = lie.room q k other live' in
    elim (lie.apart p h q k one other name name' differ live live') [
      | inl before ↦ inl (omega (arith, before, room))
      | inr behind ↦ inr (omega (arith, behind, room'))
    ]

-- a span stays handed out: later spans are after it
stays_handed_out : (old new : Heap) (before after : Contents) → KeepsToSpan old new before after
    → old.span.at + old.span.len ≤ before.carved → new.span.at + new.span.len ≤ after.carved
stays_handed_out old new before after keeps within =
    subst (λ (span : Span). span.at + span.len ≤ after.carved) (sym keeps.span) (omega (arith, keeps.carved, within))
