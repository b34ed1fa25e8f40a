-- The names that walks cite, of std, of the crates below and of this crate.
pub use Rattle.std.proofs.Common.{◌≡◌, ℕ, ◌+◌, ◌-◌, ◌*◌, ◌^◌, ◌<◌, ◌≤◌, List, [], ◌∷◌, ◌++◌, length, take, refl, sym, ap, subst, ◌∙◌, lit<, w8, w32, w64, MutBor, arith, inl, inr, ◌⊎◌}
pub use Rattle.std.proofs.lemmas.List.{replicate_more}
pub use Rattle.std.proofs.raw_atomic.Walks.{proved}
pub use base.Fml.{ftrue, fsep, fat, flft, froom, fhide, Fml, Lft, Share, GName, fauth, fbor, feq, ffalse, fobor, fobs}
pub use base.Fraction.{full_share}
pub use base.Logic.{id⊢, SProp, ent, sep, emp, never, ex, fst∗, guard, never_e}
pub use base.Stored.{Gv, coded_list}
pub use contract.Monad.{fact, fact_i, Fun}
pub use contract.Running.{tables}
pub use denote.Array.{Array}
pub use denote.ArrayMemory.{Array-apart, Array-whole}
pub use denote.Builtin.{u8, unit, usize, RefOf}
pub use denote.Exit.{yes, no}
pub use denote.Follow.{follows, follows_both}
unfoldable pub use denote.Follow.{both_by}
pub use denote.FollowSlice.{lends_Elements, slice_of}
pub use denote.Index.{row, whole_in, whole_out}
pub use denote.Laws.{shows}
pub use denote.Memory.{cell_at, part_at, hidden_shr, mem, shared_of}
unfoldable pub use denote.Memory.{part_of}
pub use denote.Opens.{hide, shr_dup, unhide}
pub use denote.Plain.{uint_in, uint_Makes, uint_vals, uint_Tells}
pub use denote.RattleType.{RattleType, RowLaws, Valss}
pub use denote.RawPtr.{Ptr, RawPtr, block_ptr, block_of, count_of, InBlock, lies_at, in_a_block, rawptr_vals, rawptr_Tells, null_ptr, ptr_row_laws, ptr_val, room_for}
pub use denote.Ref.{MutRef, ShrRef, mut_vals, mut_Tells, shr_vals, shr_Tells}
pub use denote.Signature.{plain, mut_ref_to}
pub use denote.Slice.{MutSlice, slice_val, elements_shared, Room}
pub use denote.Steps.{nothing, owned, opens, heard, peeks, only}
pub use denote.Struct.Lending.{Lends-first, Lends-lies, in_block_says, lent_at, lent_at_shr_laws, lent_out, of_Lends}
pub use denote.Struct.Owning.{shape, to}
pub use denote.Struct.Struct.{Struct, Struct-Makes, Struct-row_laws, within}
pub use denote.Triple.Call.{calls_at, calls_at_last}
pub use denote.Triple.Clauses.{lasts}
pub use denote.Triple.Entry.{on_entry}
pub use denote.Triple.Spec.{triple_of}
pub use denote.Triple.Table.{framed}
pub use denote.Triple.Walked.{Stays, walk_of, says, stay_dropped, Goes-dropped, ends_at, Goes-spent_ref, walk_Meets, walked}
pub use lib.Dec.{T, ltb→lt, nltb→le}
pub use lib.ListN.{length-drop, length-replicate, length-take, replicate}
pub use mathlib.Core.Bool.{Bool, false, true}
pub use mir.Syntax.{ty_int, named, Body, Ty, ty_array, ty_unit}
pub use mir.Val.{Val, vunit, vint, vptr, WT, has_ty, of_list, vcons, vnil, vstruct}
pub use prog.Capped.{capped_is}
pub use prog.Memory.{Memory, align, capped, size}
pub use prog.Routine.{Routine}
pub use prog.Wp.{WpFn, Env, Calls, Loops, Out, Tables, Wp, after_block, after_seq, at_return}
unfoldable pub use prog.Wp.{after_turn}
pub use seplogic.Ra.Ura.{Ura}
pub use types.ByLocal.{alloc_all, pass_all, free_all, look_at, get, get_in, through, sets, sets_last, lands_as, env, forget_but, get_tag, holding, lands_last}
pub use types.Follow.{after₂, takes_two}
pub use types.Kit.{‵, raw, ◌⊛◌, some, later, prop, at_ret, Sq, Item, ◌$◌, ◌∵◌, !, qed, by, done, move, keep, drop, use0, use1, use2, use3, split, split3, join, fsplit, fsplit3, fjoin, fjoin3, fpick, fpack, feq_i, feq_l, flt_i, pick, check, await, rewrite, regoal, suffices, frame, group, Goal, Post, Step, any_q, now, post, runs, show, step, updating}
pub use types.Logic.{Logic, sem}
pub use types.Match.{in_variant, live, vrt}
pub use types.Part.{whole, sub, look_in, agg}
pub use types.Run.{enter, of_opd, lit, unit_lit, bin, load, look, stop, fld, no_more, and_then, assigns_last, first, blocks, branches, skips, exec, returns, Below, again, init, jumps, loops, switches_on}
pub use types.SemTy.{Arr, SemTy, cells}
pub use Rattle.arena_core.specs.Code.Lending.{with_bytes, with_range}
pub use Rattle.arena_core.proofs.Rows.{length-written}
pub use Rattle.arena_core.specs.Code.Ownership.{bytes_type, chunk}
pub use Rattle.arena_core.specs.Code.Written.{written}
pub use Rattle.arena_core.specs.declared.block.Block.{Block}
pub use Rattle.core.proofs.alloc.Calls.{Al, Answer, Answer-typed, Answered, Goes-blank, answer_val, answers, token}
pub use Rattle.core.proofs.alloc.Shapes.{after, head, arm_body}
pub use Rattle.core.specs.Allocator.{block_if_ok}

module _ {M : Type 1} {𝓤 : Ura M} (𝓛 : Logic 𝓤) where
  open 𝓛 use {H}

  -- what follows a statement that holds others: the rest of the body
  abbrev pub then_runs : Calls 𝓤 H → Loops 𝓤 H → Env 𝓤 H → Body → Post 𝓤 H → Post 𝓤 H
  then_runs C Λ E b q = any_q (after_seq 𝓤 H (Wp 𝓤 H C Λ E b (post 𝓤 H q)) (post 𝓤 H q))
