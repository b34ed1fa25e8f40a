-- Names that the proofs of this crate use: from std, the crates below, and its own specs.
pub use Rattle.std.proofs.Common.{Bool, List, [], ap, arith, drop, eqb, false, get_or, inl, inr, leb, length, ltb, not, refl, replicate, rules, slice_range, slice_set, subst, suc, sum_by, sym, take, true, zero, ℕ, ◌%◌, ◌*◌, ◌++◌, ◌+◌, ◌-◌, ◌<◌, ◌^◌, ◌∙◌, ◌∷◌, ◌≡◌, ◌≢◌, ◌≤◌, ◌⊎◌}
pub use Rattle.std.proofs.lemmas.Bool.{cases_Bool, cases_eq, cases_lt, cond-false, cond-true, eq-eqb, false≢true, le-leb, le-ltb, leb-true, lt-leb, lt-ltb, ltb-false, ltb-true, ne_eqb}
pub use Rattle.std.proofs.lemmas.List.{append-nil, append_assoc, drop-replicate, get_or-map, get_or-set_other, get_or-set_same, length-append, length-map, length-replicate, length-set, map-append, map-set, take-append-le, take-replicate, take-take}
pub use Rattle.std.proofs.lemmas.List.Elements.{All-nil, filter-append}
pub use Rattle.std.proofs.lemmas.List.Sums.{sum_by-cons}
pub use Rattle.std.proofs.lemmas.Nat.{from_le_bytes-to_le_bytes_4, mul-le}
pub use Rattle.std.specs.Int.{from_le_bytes, to_le_bytes}
pub use Rattle.std.specs.Option.{option_map, option_map_or, option_or}
pub use Rattle.std.specs.Prelude.{All, IfSome, IsSome, IsSomeAnd, None, Option, Some, filter, find, fold, if◌then◌else◌, map}
pub use mir.Syntax.{w32}
pub use Rattle.arena_core.proofs.Ranges.{changes_only, length-range, range-range, range-written, take_past, written-range}
pub use Rattle.arena_core.proofs.Rows.{written_is}
pub use Rattle.arena_core.specs.Code.Contents.{Contents}
pub use Rattle.arena_core.specs.Code.Extents.{AreApart, Extent, LiesIn}
pub use Rattle.arena_core.specs.Code.Outside.{ChangesOnly}
pub use Rattle.arena_core.specs.Code.Written.{written}
pub use Rattle.arena_core.specs.declared.span.Span.{Span}
pub use Rattle.mote_types.specs.BlockNames.{number_of}
pub use Rattle.mote_types.specs.Code.Conditions.{IsName}
pub use Rattle.mote_types.specs.Bytes.{overwritten, range_of, resized, zeros}
pub use Rattle.heap_core.specs.Code.Chunks.{AreJoined, BeginsLive, FREED, IsWhole, Tell, blocks_in, chunks_from, is_a_name, is_named, least_len, link_in, owner_in, place_in_link, size_in, with_chunk, word_at}
unfoldable pub use Rattle.heap_core.specs.Code.Chunks.{chunk_at, shortest}
pub use Rattle.heap_core.specs.Code.Holes.{Cleared, Cut, EndsHole, Fits, Laid, Leaves, Left, OnlyAt, ReachesWithGaps, Room, Spliced}
pub use Rattle.heap_core.specs.Code.Joins.{Aside, Changed, Joins}
pub use Rattle.heap_core.specs.Code.Links.{Follow, IsLink, KeepsFreed, LinkChanged, Relinked, Starts, below_from, gap_below, gap_count, gap_found, gap_from, last_of, place_below}
pub use Rattle.heap_core.specs.Code.FreeBytes.{GapAt, IsWholeRoom, LeavesGap, free_from, front_gap}
pub use Rattle.heap_core.specs.Code.Owners.{Owned, is_owner, owned_by}
pub use Rattle.heap_core.specs.Code.PlacedBlocks.{at_place, block_in_chunk, bytes_in_chunk, place_in_chunk, without_place}
unfoldable pub use Rattle.heap_core.specs.Code.ChunkRanges.{chunks_behind}
pub use Rattle.heap_core.specs.Code.FreeList.{AreFreed, FreedLinked, GapsLinked, LinkedTo, LiveIn, NoneAt, Stands, behind_link, free_chunks, gaps_among, unnamed, with_free}
pub use Rattle.heap_core.specs.Code.HeapBytes.{IsLaidOut, KeepsToSpan, heap_of, linked_of}
pub use Rattle.heap_core.specs.HeapStore.{Block, HeapStore, best_gap, better, block_of, end_of, find_block, footprint, gap_at, gaps, gaps_from, has_name, least_room, moved, place, place_in, placed, reallocated, resized_block, room_in_place, room_taken, shorter, stats_of, top_place, with_block, without_block}
pub use Rattle.heap_core.specs.Code.Conditions.{IsHeaderLength}
pub use Rattle.heap_core.specs.Code.BlockOrder.{LieApart, LieInOrder}
unfoldable pub use Rattle.heap_core.specs.HeapStore.{block_at}
pub use Rattle.heap_core.specs.Code.Layout.{HasChunks, store_of}
unfoldable pub use Rattle.heap_core.specs.Code.Layout.{chunks_of}
pub use Rattle.heap_core.specs.Code.Places.{ArePlaced, place_found}
pub use Rattle.heap_core.specs.Code.Separation.{BlocksLieApart, bytes_behind_header, extent_of, live_block}
pub use Rattle.heap_core.specs.declared.chunk.Candidate.{Candidate}
pub use Rattle.heap_core.specs.declared.chunk.Chunk.{Chunk}
pub use Rattle.heap_core.specs.declared.chunk.Fit.{Fit}
pub use Rattle.heap_core.specs.declared.chunk.Gap.{Gap}
pub use Rattle.heap_core.specs.declared.chunk.Place.{Place}
pub use Rattle.heap_core.specs.declared.region.Region.{Region}
