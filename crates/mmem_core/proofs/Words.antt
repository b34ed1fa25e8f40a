-- Names that the proofs of this crate use: from std, the crates below, and its own specs.
pub use Rattle.std.proofs.Common.{IsSomeAnd, List, None, Option, Some, [], ap, append_assoc, arith, false, get_or, if◌then◌else◌, inl, inr, length, map, min, mul-suc, nat_le, refl, replicate, rules, slice_range, slice_set, subst, suc, sum_by, sym, true, unwrap_or, zero, ℕ, ◌*◌, ◌+◌, ◌-◌, ◌<◌, ◌^◌, ◌∙◌, ◌∷◌, ◌≡◌, ◌≢◌, ◌≤◌, ◌⊎◌}
pub use Rattle.std.proofs.lemmas.Bool.{cases_eq, cases_lt, eq-eqb}
pub use Rattle.std.proofs.lemmas.Bool.Decides.{nat_tests}
pub use Rattle.std.proofs.lemmas.List.{get_or-map, get_or-replicate, get_or-set_other, get_or-set_same, get_or_past, length-map, length-replicate, length-set, map-set, set-get_or, set-set}
pub use Rattle.std.proofs.lemmas.List.Sums.{sum_by-cons, sum_by-set}
pub use Rattle.std.proofs.lemmas.List.Folds.{sum_by-replicate}
pub use Rattle.std.proofs.lemmas.Grind.{get_or-set_at}
pub use Rattle.std.specs.List.{range_with_len}
pub use Rattle.std.specs.Option.{option_map}
pub use Rattle.std.specs.Prelude.{IfSome, IsSome}
pub use Rattle.arena_core.proofs.Ranges.{changes_only, length-range, range-range, range-written, range-written_apart, written-range}
pub use Rattle.arena_core.specs.Code.Contents.{Contents, contents}
pub use Rattle.arena_core.specs.Code.Outside.{ChangesOnly}
pub use Rattle.arena_core.specs.Code.Written.{written}
pub use Rattle.arena_core.specs.declared.span.Span.{Span}
pub use Rattle.mote_types.specs.BlockNames.{number_of}
pub use Rattle.mote_types.specs.Code.Conditions.{IsName}
pub use Rattle.mote_types.specs.Bytes.{overwritten, zeros}
pub use Rattle.mote_types.specs.Rounding.{up4}
pub use Rattle.mmem_core.specs.Code.Laid.{LieApart, at_of, end_at, room_of}
pub use Rattle.mmem_core.specs.Code.Ring.{IsEntry, IsLaidOut, IsLinked, IsNext, Names, appended, removed}
unfoldable pub use Rattle.mmem_core.specs.Code.Ring.{AreLinked}
pub use Rattle.mmem_core.specs.Code.Shares.{Shares, room_by, share}
unfoldable pub use Rattle.mmem_core.specs.Code.Shares.{AreShared}
pub use Rattle.mmem_core.specs.ManagedStore.{ManagedStore, allocated, block_of, free, freed, size_of, taken_by, unused}
pub use Rattle.mmem_core.specs.Code.Places.{bytes_moved, end_of, last_end, place_in, room_moved}
pub use Rattle.mmem_core.specs.Code.Separation.{BlocksLieApart, bytes_at_place, extent_of}
pub use Rattle.mmem_core.specs.Code.HandleTable.{CountsMoved, HandleTable, IsWithin, KeepsToSpan, bytes_at, region_of, store_of}
pub use Rattle.mmem_core.specs.declared.order.Order.{Order}
pub use Rattle.mmem_core.specs.declared.place.Place.{Place}
pub use Rattle.mmem_core.specs.declared.quotas.Quotas.{Quotas}
