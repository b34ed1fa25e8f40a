-- Re-exports the names and lemmas that the proofs here cite. Declares nothing.
pub use Rattle.memb_core.proofs.Words.{Contents, FillsSpan, KeepsLists, ListName, None, PoolTable, Some, ap, arith, contents, eqb, false, get_or, get_or-set_other, is_used, length, length-range, length-replicate, length-set, list_of, not, place_of, position, position-Some, refl, replicate, rules, slice_get, slice_get-get_or, slice_get_within, start_of, subst, sym, take, take-replicate, to_le_bytes, true, w32, with_used, written, zeros, ◌+◌, ◌-◌, ◌∙◌, ◌≡◌, ◌≢◌, ◌≤◌}
unfoldable pub use Rattle.memb_core.proofs.Words.{link_of, pool_of}
pub use Rattle.memb_core.proofs.Apart.{lie_apart}
pub use Rattle.memb_core.proofs.Blocks.{all_unused, first_unused_is, live_is, still_used, unused_count_is, used_below}
pub use Rattle.memb_core.proofs.Bytes.{block_is, bytes_read, kept, link_blocks, link_inside, link_others, link_read, link_written, links_kept, live_below, pool_allocated, pool_freed, pool_written, room_of, still_within, used_if_room, write_inside}
pub use Rattle.memb_core.proofs.Callers.{IsWithin-kept}
pub use Rattle.memb_core.proofs.Chains.{IsWalked, head_named, length-all_along, next_named, walk_ended, walk_more}
pub use Rattle.memb_core.proofs.Linked.{absent_after, behind_in, empty_linked, first_out, front_in, head_out, keeps_lists, later_out, link_small, listed_below, made, none_listed, start_listed, still_linked}
pub use Rattle.memb_core.proofs.Numbers.{at_tail, differ, found, has_at, no_place, no_tail, has_left, without_none}
