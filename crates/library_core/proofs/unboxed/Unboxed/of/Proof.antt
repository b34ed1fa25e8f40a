-- `of` keeps what `into_raw_with_allocator` gives. Assumes `Logic`.
use Rattle.core.proofs.alloc.Calls.{Goes-blank, handle_tells}
use Rattle.core.proofs.atomic.Steps.{fm}
use Rattle.std.proofs.Common.{◌≡◌, ◌∙◌, List, ◌∷◌, ◌++◌, refl, ap, []}
use Rattle.std.proofs.raw_atomic.Walks.{proved_at, leaves}
use Rattle.std_alloc.proofs.BoxSteps.Form as box
use Rattle.std_alloc.proofs.BoxSteps.Steps.{box_out, box_in}
use Rattle.std_alloc.proofs.boxed.Box as boxed
use Rattle.std_alloc.specs.Box.Ownership.{box_owns}
use Rattle.std_alloc.specs.contracts.boxed.Box
use Rattle.library_core.specs.contracts.unboxed.Unboxed as unboxed
use base.Fml.{ftrue, fsep, flft}
use base.Logic.{SProp, never, id⊢, fst∗}
use contract.Monad.{fact}
use contract.Running.{tables}
use denote.Builtin.{RawPtr}
use denote.Exit.{no}
use denote.Param.{layout, param, bounded}
use denote.RattleType.{RattleType, owns}
use denote.RawPtr.{Ptr, block_ptr, null_ptr, ptr_val, in_a_block}
use denote.Signature.{types_at, plain}
use denote.Steps.{nothing, only, heard}
use denote.Struct.Tuple.{Tuple}
use denote.Triple.Call.{calls_at}
use denote.Triple.Spec.{triple_of}
use denote.Triple.Walked.{Stays, stay_dropped, walk_of}
use mir.MapTy.{inst_fn}
use mir.Raw.{raw as bare}
use mir.Syntax.{dnil, dcons, a_type}
use mir.Val.{Val, vstruct, of_list}
use prog.Wp.{WpFn}
use types.ByLocal.{alloc_all, pass_all, free_all, look_at, get, get_in, sets, lands_as}
use types.Kit.{‵, raw, ◌⊛◌, prop, some, later, ◌$◌, ◌∵◌, !, qed, by, move, keep, drop, split, split3, join, regoal, fsplit, fjoin, fpick, pick, use1, await, rewrite, feq_l}
use types.Logic.{sem}
use types.Part.{agg, sub, whole}
use types.Run.{stop, fld, of_opd, no_more, and_then, returns, enter}
use Rattle.library_core.proofs.Handles.{told}
use Rattle.library_core.proofs.unboxed.Unboxed.of.Statement.{statement}
use Rattle.library_core.proofs.unboxed.Unboxed.of.Code as code

pub of_spec : {M : Type 1} → statement M
of_spec 𝓤 𝓛 𝓜 𝓡 wired X Z LX LZ g d dd dx allocates drops glue =
    let H = 𝓛.H in let 𝓣 = tables 𝓤 H 𝓜 𝓡 𝓡.env in
    let R : RattleType = param 0 X in let P : RattleType = param 1 Z in
    let E : box.Bx = record { row = X; laws = LX; al = record { row = Z; laws = LZ; g = g; d = d; drops = dd } } in
    let B : RattleType = box.B E in
    let En = unboxed.of.ended X Z g d dd dx in let c = unboxed.of.clauses X Z g d dd dx 𝓛 𝓜.mem 𝓡.returns in
    let args = bounded (a_type ∷ a_type ∷ []) (X, (Z, tt)) (dcons d (dcons dd (dcons dx dnil))) in
    let fn = inst_fn args code.function in
    let hs : Stays En.signature.params En.kept = (stay_dropped (plain (λ _. B)) no, tt) in
    let goes = Goes-blank 𝓛 2 (plain (λ _. B)) no (λ κs x f. tt) in
    let k = triple_of 𝓛 (Box.into_raw_with_allocator.signature X Z g d dd dx)
    (Box.into_raw_with_allocator.spec X Z g d dd dx 𝓛 𝓜.mem 𝓡.returns) in
    let calls = code.calls-std_alloc::boxed::Box::into_raw_with_allocator 𝓡.env wired in
    let known = boxed.into_raw_with_allocator.Met.met 𝓤 𝓛 𝓜 𝓡 calls X Z LX LZ g d dd dx allocates drops glue in
    proved_at 𝓛 En hs c 𝓜 𝓡 (goes, tt) (unboxed.of.Key.name args) fn
    (code.unfolded 𝓤 H 𝓜 𝓡 wired (X, (Z, tt)) d dd dx) (λ z are.
    let κs = z.0.0 in let qs = z.0.1 in let given = z.0.3.0 in let a = given.alloc in let x = given.value in
    let Post : Val → SProp 𝓤 = (walk_of 𝓛 En hs c).post z in
    let alive_there = ‵ (flft κs.0 qs.0) ⊛ ‵ (flft κs.1.0 qs.1.0) ⊛ ‵ ftrue in
    let asked = raw ((c κs z.0.3).requires z.1) in
    qed 𝓛 ((alive_there ⊛ ‵ (owns (types_at En.signature.params κs) z.0.3 z.0.4)) ∷ asked ∷ []) ∵
    split ! $ move ! (1 ∷ []) $ fsplit ! $ box_out E ! given z.0.4.0 (λ b o h is_at is_val good. box_in E ! given b o x is_at refl $
    -- [the box; nothing; the lifetimes; what is required]
    let v : Val = box.word E h b o in let typed = box.box_typed E h b o good in
    let y : k.Ghost = ((κs, qs, tt, (given, tt), (v ∷ [], tt)), tt) in
    fjoin ! $ move ! (1 ∷ 0 ∷ []) $ join ! $ join ! $ use1 𝓛 (raw (k.pre y)) (id⊢ 𝓤 _) $
    regoal ! (λ (us : List Val). prop (WpFn 𝓤 H 𝓣.C 𝓣.Λ fn us Post)) (λ i. is_val i ++ []) refl $
    enter ! 𝓣.C 𝓣.Λ fn (v ∷ []) Post $ alloc_all ! (λ l. pass_all ! refl (typed, tt) $
    sets ! (of_opd ! (get ! refl)) refl typed $
    calls_at ! (fm 𝓛 𝓜 𝓡) k known y (and_then ! (get ! refl) (no_more !)) (λ u.
    let Pair = Tuple (RawPtr ∷ P ∷ []) in
    let says = λ (r : Ptr × Z.Denot). raw (fact 𝓤 (r.1 ≡ a)) ⊛ ‵ (box_owns (g.dealloc_token a) R r.0 x) in
    let left = λ (r : Ptr × Z.Denot). some (λ (_ : (Unit {0} × (Unit {0} × Unit {0})) × Unit {0}).
    ‵ (fsep (fsep ftrue (fsep ftrue ftrue)) ftrue) ⊛ says r) in
    use1 𝓛 (later (some (λ (r : Ptr × Z.Denot). (alive_there ⊛ ‵ (Pair.own_val r (u ∷ []))) ⊛ left r))) (id⊢ 𝓤 _) $
    await ! tt $ pick ! (λ r. split ! $ move ! (1 ∷ []) $ pick ! (λ _. split3 ! $ drop ! $ heard ! (r.1 ≡ a) (λ same.
    let nowhere = fst∗ 𝓤 (never 𝓤) (sem 𝓛 (g.dealloc_token a (bare (layout X)) null_ptr)) in
    in_a_block ! r.0 (λ p. box_owns (g.dealloc_token a) R p x) nowhere (λ b' o' is_block.
    -- [what is owned at the pointer; the lifetimes and the pair]
    move ! (1 ∷ []) $ split ! $ move ! (1 ∷ [])
    $ fpick ! (λ vss. fsplit ! $ feq_l ! (λ is_both. fsplit ! $ feq_l ! (λ is_pointer. fsplit ! $
    rewrite ! 0 (λ (s : Z.Denot). ‵ (Z.own_val s vss.1.0)) same refl $ handle_tells E.al ! a vss.1.0 (λ h' is_handle good'.
    let made_good = box.box_typed E h' b' o' good' in
    let at_block = is_pointer ∙ ap (λ (p : Ptr). ptr_val p ∷ []) is_block in
    lands_as ! (ap only (is_both ∙ (λ j. vstruct (of_list (at_block j ++ (is_handle j ++ []))) ∷ []))) refl made_good $
    sets ! (of_opd ! (get_in ! (fld ! refl (stop !)) (sub ! 0 refl (whole !)))) refl (tt, tt) $
    sets ! (of_opd ! (get_in ! (fld ! refl (stop !)) (sub ! 1 refl (whole !)))) refl good' $
    sets ! (of_opd ! (get ! refl)) refl good' $
    sets ! (agg ! (and_then ! (get ! refl) (and_then ! (get ! refl) (no_more !)))) refl made_good $
    move ! (3 ∷ 0 ∷ []) $ fsplit ! $ box_in E ! (record { ptr = block_ptr b' o'; alloc = a; value = x }) b' o' x refl refl $
    told ! (x ≡ x) refl $ nothing ! $ nothing ! $ fjoin ! $
    returns ! (look_at ! 0 refl) $ free_all ! refl $ keep ! (4 ∷ 0 ∷ 2 ∷ 1 ∷ []) $
    by ! (leaves 𝓛 En hs c z (box.word E h' b' o') (record { pointer = block_ptr b' o'; allocator = a; value = x }) ((tt, (tt, tt)), tt)
    (tt, tt))))))))))))))
