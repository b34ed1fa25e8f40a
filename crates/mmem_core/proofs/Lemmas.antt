-- Re-exports the names and lemmas that the proofs here cite. Declares nothing.
pub use Rattle.mmem_core.proofs.Words.{HandleTable, IsLaidOut, LieApart, List, ManagedStore, None, Option, Place, Some, Span, ap, arith, contents, get_or, get_or-map, get_or-set_same, get_or_past, last_end, length, length-map, length-replicate, map-set, min, number_of, place_in, refl, region_of, replicate, room_of, rules, sum_by-replicate, sum_by-set, inl, slice_range, slice_set, store_of, subst, sym, unused, up4, written, zeros, ℕ, ◌*◌, ◌+◌, ◌-◌, ◌<◌, ◌^◌, ◌∙◌, ◌≡◌, ◌≤◌}
pub use Rattle.mmem_core.proofs.Apart.{blocks_apart}
pub use Rattle.mmem_core.proofs.PlaceLemmas.{LieApart-added, LieApart-freed, LieApart-none, begins_behind, bytes_moved-freed, bytes_moved-same, bytes_moved-set, last_end-added, last_le, len_le_room, live_from_room, placed}
pub use Rattle.mmem_core.proofs.RingLemmas.{ends, higher_below, last_below, last_is, shown, hidden, linked_appended, linked_removed, lower_below, next_below, no_links}
pub use Rattle.mmem_core.proofs.Shares.{block_shared, freed_shared, none_shared, room_le_taken, share_is_there, taken_is, taken_le_quota, taken_le_used}
pub use Rattle.mmem_core.proofs.Midway.{IsMidway, down, inside, is_live, link_below, midway_first, midway_more, room_behind, slid_shared, some_room}
pub use Rattle.mmem_core.proofs.StoreLemmas.{block_in, get_or-blocks, no_place, unused-added}
pub use Rattle.mmem_core.proofs.TableLemmas.{seen_apart, added, block_is, free_of_all, free_under, place_length, rewritten, taken_away, unused_is, unused_place}
