-- Names that the proofs of this crate use: from std, the crates below, and its own specs.
pub use Rattle.std.proofs.Common.{Bool, List, [], ap, arith, eqb, false, get_or, inl, inr, length, not, refl, replicate, rules, set, slice_range, subst, suc, sym, take, true, zero, ℕ, ◌++◌, ◌+◌, ◌-◌, ◌<◌, ◌^◌, ◌∙◌, ◌∷◌, ◌≡◌, ◌≢◌, ◌≤◌, ◌⊎◌}
pub use Rattle.std.proofs.lemmas.Bool.{cases_Bool, cases_eq, cases_lt, cases_order, cond-true, eq-eqb, eqb-true, false≢true, lt-ltb, ne_eqb}
pub use Rattle.std.proofs.lemmas.List.{append-nil, append_assoc, drop_all, get_or-set_other, get_or-set_same, get_or_past, length-append, length-replicate, length-set, set-get_or, take-replicate, take_all, take_more}
pub use Rattle.std.proofs.lemmas.List.Quantifiers.{position-Some}
pub use Rattle.std.proofs.lemmas.Option.{get_or_from_slice_get, slice_get-get_or, slice_get_within}
pub use Rattle.std.specs.Int.{from_le_bytes, to_le_bytes}
pub use Rattle.std.specs.List.{position, position_or_len}
pub use Rattle.std.specs.Prelude.{IfSome, IsSomeAnd, None, Option, Some, filter, if◌then◌else◌, is_none, is_some, slice_get, unwrap_or}
pub use mir.Syntax.{w32}
pub use Rattle.arena_core.proofs.Ranges.{changes_only, length-range, length-written, range-range, range-written, range-written_apart, written-range}
pub use Rattle.arena_core.specs.Code.Contents.{Contents, contents}
pub use Rattle.arena_core.specs.Code.Written.{written}
pub use Rattle.mote_types.specs.Bytes.{overwritten, zeros}
pub use Rattle.memb_core.specs.BlockLists.{chopped, has_number, head_of, next_of, popped, put_behind, tail_of, without}
pub use Rattle.memb_core.specs.BlockPool.{BlockPool, allocated, block_of, first_unused, freed, unused_count, with_block, with_bytes}
pub use Rattle.memb_core.specs.Code.Changes.{with_start, with_used}
pub use Rattle.memb_core.specs.Code.Sizes.{FillsSpan}
pub use Rattle.memb_core.specs.Code.Links.{AreDistinct, AreLinked, IsLinked, KeepsLists, LeavesOthers, Names, along, is_used, list_of, named_by, start_of}
unfoldable pub use Rattle.memb_core.specs.Code.Links.{all_along, link_of}
pub use Rattle.memb_core.specs.Code.PoolBytes.{IsWithin, KeepsToSpan, blocks_from, is_live, place_of, region_of, usable_bytes}
unfoldable pub use Rattle.memb_core.specs.Code.PoolBytes.{pool_of}
pub use Rattle.memb_core.specs.Code.PoolTable.{ListHeads, PoolTable}
pub use Rattle.memb_core.specs.declared.list_name.ListName.{ListName}
