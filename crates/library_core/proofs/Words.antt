-- The names that the walks of `open_mut` cite.
pub use Rattle.core.proofs.alloc.Shapes.{after}
pub use Rattle.std.proofs.Common.{List, ◌∷◌, refl, sym, lit<, Bool, true, false, None, Some, [], MutBor}
pub use Rattle.std.proofs.raw_atomic.Walks.{proved}
pub use Rattle.std_alloc.specs.Box.Ownership.{box_owns}
pub use base.Fml.{ftrue, flft, GName}
pub use base.Fraction.{full_share}
pub use base.Logic.{never, fst∗, id⊢}
pub use contract.Running.{tables}
pub use denote.Exit.{no}
pub use denote.Follow.{follows}
unfoldable pub use denote.Follow.{follows_by}
pub use denote.Memory.{lone, cell_at}
pub use denote.RattleType.{RattleType}
pub use denote.RawPtr.{Ptr, block_ptr, null_ptr, in_a_block}
pub use denote.Ref.{MutRef, mut_vals, mut_Tells}
pub use denote.Signature.{plain, mut_ref_to}
pub use denote.Steps.{nothing, opens}
pub use denote.Triple.Walked.{Stays, stay_dropped, walk_of, says, ends_at, Goes-spent_ref}
pub use mir.Raw.{raw as bare}
pub use mir.Syntax.{named}
pub use mir.Val.{Val, vptr, vcons, vnil}
pub use types.ByLocal.{alloc_all, pass_all, free_all, look_at, get, through, sets, sets_last, env}
pub use types.Kit.{‵, raw, ◌⊛◌, some, later, at_ret, ◌$◌, ◌∵◌, !, qed, done, move, keep, drop, use1, split, split3, join, fsplit, fsplit3, fjoin, pick, await, group, rewrite, suffices, frame}
pub use types.Logic.{sem}
pub use types.Match.{live}
pub use types.Part.{agg, sub, look_in, whole}
pub use types.Run.{stop, fld, load, addr, of_opd, lit, un, no_more, and_then, first, blocks, branches, skips, exec, returns, returns_within, enter}
