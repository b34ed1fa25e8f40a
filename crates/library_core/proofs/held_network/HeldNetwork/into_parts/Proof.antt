-- `into_parts` gives the pointer its type again, if there is one. Assumes `Logic`.
use Rattle.core.proofs.alloc.Calls.{Goes-blank, handle_tells}
use Rattle.core.proofs.alloc.Shapes.{after}
use Rattle.core.proofs.atomic.Steps.{Ptr-Good}
use Rattle.core.proofs.cell.Inside.{Good}
use Rattle.core.proofs.option.Made.{Some-of, none_of}
use Rattle.std.proofs.Common.{◌≡◌, ◌∙◌, List, ◌∷◌, ◌++◌, refl, ap, lit<, Bool, true, false, None, Some, []}
use Rattle.std.proofs.raw_atomic.Walks.{proved_at, leaves}
use Rattle.std_alloc.proofs.BoxSteps.Form as box
use Rattle.std_alloc.proofs.BoxSteps.Steps.{box_in}
use Rattle.std_alloc.proofs.ResultValues.{and_tt}
use Rattle.std_alloc.specs.Box.Ownership.{box_owns}
use Rattle.std_heap.specs.contracts.Global as global
use Rattle.std_heap.specs.contracts.GlobalAllocator.TheImpl.{ghosts}
use Rattle.library_core.specs.Owned.{chunk}
use Rattle.library_core.specs.contracts.held_network.HeldNetwork as network
use Rattle.library_core.specs.contracts.open_network.OpenNetwork as held
use Rattle.library_core.specs.contracts.unboxed.Unboxed as unboxed
use base.Fml.{ftrue}
use base.Logic.{SProp, never, fst∗}
use contract.Running.{tables}
use denote.Exit.{yes}
use denote.Memory.{lone}
use denote.Param.{layout}
use denote.RattleType.{RattleType, owns}
use denote.RawPtr.{block_ptr, null_ptr, in_a_block}
use denote.Signature.{types_at, type_at, plain}
use denote.Steps.{nothing}
use denote.Triple.Entry.{alive}
use denote.Triple.Walked.{Stays, stay_dropped, walk_of}
use mir.Raw.{raw as bare}
use mir.Syntax.{Fn}
use mir.Val.{Val, vcons, vnil}
use prog.Wp.{WpFn}
use types.ByLocal.{alloc_all, pass_all, free_all, look_at, get, get_in, sets, sets_last, env}
use types.Kit.{‵, raw, ◌⊛◌, prop, at_ret, ◌$◌, ◌∵◌, !, qed, by, move, keep, split, regoal, fsplit, fjoin, use0, use1}
use types.Logic.{sem}
use types.Match.{live}
use types.Part.{agg, sub, whole}
use types.Run.{stop, fld, of_opd, lit, no_more, and_then, first, branches, exec, returns, enter}
use Rattle.library_core.proofs.Handles.{mote_val, mote_good, told}
use Rattle.library_core.proofs.NetworkHandles.{seen, kept}
use Rattle.library_core.proofs.Lent.{by_state}
use Rattle.library_core.proofs.held_network.HeldNetwork.into_parts.Statement.{statement}
use Rattle.library_core.proofs.held_network.HeldNetwork.into_parts.Code as code

pub into_parts_spec : {M : Type 1} → statement M
into_parts_spec 𝓤 𝓛 𝓜 𝓡 wired =
    let H = 𝓛.H in let 𝓣 = tables 𝓤 H 𝓜 𝓡 𝓡.env in
    let En = network.into_parts.ended in let c = network.into_parts.clauses 𝓛 𝓜.mem 𝓡.returns in
    let R = held.the_row in let Z = global.the_row in let Taken : RattleType = unboxed.the_row R Z ghosts in
    let fn : Fn = code.function in
    let hs : Stays En.signature.params En.kept =
    (stay_dropped (plain (λ _. network.the_row)) yes, (stay_dropped (plain (λ _. Z)) yes, tt)) in
    let goes = Goes-blank 𝓛 0 (plain (λ _. network.the_row)) yes (λ κs x f. tt) in
    let goes_too = Goes-blank 𝓛 0 (plain (λ _. Z)) yes (λ κs x f. tt) in
    proved_at 𝓛 En hs c 𝓜 𝓡 (goes, (goes_too, tt)) network.into_parts.Key.name fn (code.unfolded 𝓤 H 𝓜 𝓡 wired) (λ z are.
    let κs = z.0.0 in let self = z.0.3.0 in let a = z.0.3.1.0 in let Out : RattleType = type_at En.signature.result κs in
    let Post : Val → SProp 𝓤 = (walk_of 𝓛 En hs c).post z in
    let Run = λ (us : List Val). prop (WpFn 𝓤 H 𝓣.C 𝓣.Λ fn us Post) in
    let entry = raw (alive 𝓛 En.signature z.0.0 z.0.1) ⊛ ‵ (owns (types_at En.signature.params z.0.0) z.0.3 z.0.4) in
    qed 𝓛 (entry ∷ ‵ ftrue ∷ []) ∵ split ! $ move ! (1 ∷ []) $ fsplit ! $ seen ! self z.0.4.0 (λ is_val.
    move ! (1 ∷ []) $ fsplit ! $ handle_tells kept.al ! a z.0.4.1.0 (λ h is_handle good.
    -- [the allocator's handle; nothing; what the handle owns; the lifetimes; what is required]
    move ! (2 ∷ []) $ by_state ! R self.is_open self.held self.open_network
    (λ is_closed is_none.
    let at_closed = is_val ∙ ap (λ (y : Bool). mote_val self.held y ∷ []) is_closed in
    let none_good : Good (layout Out) (live 0 vnil) = (tt, (record { fits = lit< tt }, tt)) in
    keep ! (2 ∷ []) $ regoal ! Run (λ i. at_closed i ++ (is_handle i ++ [])) refl $
    enter ! 𝓣.C 𝓣.Λ fn (mote_val self.held false ∷ h ∷ []) Post $ alloc_all ! (λ l. pass_all ! refl (mote_good self.held false, (good, tt)) $
    let Ev = env fn.locals l in
    sets ! (of_opd ! (get_in ! (fld ! refl (stop !)) (sub ! 0 refl (whole !)))) refl (Ptr-Good self.held) $
    sets ! (of_opd ! (get_in ! (fld ! refl (stop !)) (sub ! 1 refl (whole !)))) refl (tt, tt) $
    sets ! (of_opd ! (get ! refl)) refl (tt, tt) $
    first ! $ branches ! (get ! refl) (λ wrong. absurd wrong) (λ _.
    sets_last ! (agg ! (and_then ! (lit ! tt) (no_more !))) refl none_good $
    exec ! 𝓣.C 𝓣.Λ Ev (after 4 fn.body) (at_ret Ev Post) $ sets ! (of_opd ! (get ! refl)) refl none_good $
    use0 𝓛 (‵ (Out.own_val None (live 0 vnil ∷ []))) (none_of 𝓛 Taken) $
    told ! (self.open_network ≡ None) is_none $ nothing ! $ nothing ! $ fjoin ! $ nothing ! $ fjoin ! $
    returns ! (look_at ! 0 refl) $ free_all ! refl $ keep ! (3 ∷ 0 ∷ 2 ∷ 1 ∷ []) $
    by ! (leaves 𝓛 En hs c z (live 0 vnil) None (tt, (tt, tt)) (tt, (tt, tt))))))
    (λ x is_open is_some.
    let nowhere = fst∗ 𝓤 (never 𝓤) (sem 𝓛 (chunk (bare (lone R.mir)) null_ptr)) in
    in_a_block ! self.held (λ p. box_owns chunk R p x) nowhere (λ b o is_block.
    let at_open = is_val ∙ (λ i. mote_val (is_block i) (is_open i) ∷ []) in
    let parts : Val = box.word kept h b o in let typed = box.box_typed kept h b o good in
    let some_good : Good (layout Out) (live 1 (vcons parts vnil)) = (and_tt _ typed.0, (record { fits = lit< tt }, (typed.1, tt))) in
    let d : Taken.Denot = record { pointer = block_ptr b o; allocator = a; value = x } in
    keep ! (0 ∷ 1 ∷ 3 ∷ []) $ regoal ! Run (λ i. at_open i ++ (is_handle i ++ [])) refl $
    enter ! 𝓣.C 𝓣.Λ fn (mote_val (block_ptr b o) true ∷ h ∷ []) Post $
    alloc_all ! (λ l. pass_all ! refl (mote_good (block_ptr b o) true, (good, tt)) $
    let Ev = env fn.locals l in
    sets ! (of_opd ! (get_in ! (fld ! refl (stop !)) (sub ! 0 refl (whole !)))) refl (tt, tt) $
    sets ! (of_opd ! (get_in ! (fld ! refl (stop !)) (sub ! 1 refl (whole !)))) refl (tt, tt) $
    sets ! (of_opd ! (get ! refl)) refl (tt, tt) $
    first ! $ branches ! (get ! refl) (λ _.
    sets ! (of_opd ! (get ! refl)) refl (tt, tt) $
    sets ! (agg ! (and_then ! (get ! refl) (and_then ! (get ! refl) (no_more !)))) refl typed $
    sets_last ! (agg ! (and_then ! (lit ! tt) (and_then ! (get ! refl) (no_more !)))) refl some_good $
    exec ! 𝓣.C 𝓣.Λ Ev (after 4 fn.body) (at_ret Ev Post) $ sets ! (of_opd ! (get ! refl)) refl some_good $
    fsplit ! $ box_in kept ! (record { ptr = block_ptr b o; alloc = a; value = x }) b o x refl refl $
    use1 𝓛 (‵ (Out.own_val (Some d) (live 1 (vcons parts vnil) ∷ []))) (Some-of 𝓛 Taken d parts) $
    told ! (self.open_network ≡ Some x) is_some $ nothing ! $ nothing ! $ fjoin ! $ nothing ! $ fjoin ! $
    returns ! (look_at ! 0 refl) $ free_all ! refl $ keep ! (3 ∷ 0 ∷ 2 ∷ 1 ∷ []) $
    by ! (leaves 𝓛 En hs c z (live 1 (vcons parts vnil)) (Some d) (tt, (tt, tt)) (tt, (tt, tt)))) (λ wrong. absurd wrong)))))))
