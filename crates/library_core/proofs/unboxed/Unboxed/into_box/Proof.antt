-- `into_box` passes the pointer, and what is owned there, to `from_raw`. Assumes `Logic`.
use Rattle.core.proofs.alloc.Calls.{Goes-blank}
use Rattle.core.proofs.alloc.Shapes.{after}
use Rattle.core.proofs.atomic.Steps.{fm}
use Rattle.core.proofs.cell.Inside.{Good}
use Rattle.std.proofs.Common.{◌≡◌, List, ◌∷◌, ◌++◌, refl, sym, ap, subst, []}
use Rattle.std.proofs.raw_atomic.Walks.{proved_at, leaves}
use Rattle.std_alloc.proofs.BoxSteps.Form as box
use Rattle.std_alloc.proofs.BoxSteps.Steps.{box_out, box_in}
use Rattle.std_alloc.proofs.boxed.Box as boxed
use Rattle.std_alloc.specs.contracts.boxed.Box
use Rattle.library_core.specs.contracts.unboxed.Unboxed as unboxed
use base.Fml.{ftrue, flft}
use base.Logic.{SProp, id⊢}
use contract.BorrowLft.{◌⊑◌}
use contract.Monad.{fact}
use contract.Running.{tables}
use denote.Exit.{no}
use denote.Param.{layout, param, bounded}
use denote.RattleType.{RattleType, owns}
use denote.RawPtr.{block_ptr}
use denote.Signature.{types_at, plain}
use denote.Steps.{nothing, only}
use denote.Triple.Call.{calls_at_last}
use denote.Triple.Clauses.{Lasts, lasts}
use denote.Triple.Spec.{triple_of}
use denote.Triple.Walked.{Stays, stay_dropped, walk_of}
use mir.MapTy.{inst_fn}
use mir.Syntax.{dnil, dcons, a_type}
use mir.Val.{Val, vptr}
use prog.Wp.{WpFn}
use types.ByLocal.{alloc_all, pass_all, free_all, look_at, get, get_in, sets, lands_last, env}
use types.Kit.{‵, raw, ◌⊛◌, prop, some, later, at_ret, ◌$◌, ◌∵◌, !, qed, by, move, keep, drop, split, split3, join, regoal, fsplit, fjoin, pick, use1, await, rewrite, feq_i}
use types.Part.{sub, whole}
use types.Run.{stop, fld, of_opd, no_more, and_then, first, blocks, exec, returns, enter}
use Rattle.library_core.proofs.unboxed.Unboxed.into_box.Statement.{statement}
use Rattle.library_core.proofs.unboxed.Unboxed.into_box.Code as code

pub into_box_spec : {M : Type 1} → statement M
into_box_spec 𝓤 𝓛 𝓜 𝓡 wired X Z LX LZ g d dd allocates drops =
    let H = 𝓛.H in let 𝓣 = tables 𝓤 H 𝓜 𝓡 𝓡.env in
    let T : RattleType = unboxed.the_row (param 0 X) (param 1 Z) g in
    let E : box.Bx = record { row = X; laws = LX; al = record { row = Z; laws = LZ; g = g; d = d; drops = dd } } in
    let B : RattleType = box.B E in
    let En = unboxed.into_box.ended X Z g d dd in let c = unboxed.into_box.clauses X Z g d dd 𝓛 𝓜.mem 𝓡.returns in
    let args = bounded (a_type ∷ a_type ∷ []) (X, (Z, tt)) (dcons d (dcons dd dnil)) in
    let fn = inst_fn args code.function in
    let hs : Stays En.signature.params En.kept = (stay_dropped (plain (λ _. T)) no, tt) in
    let goes = Goes-blank 𝓛 2 (plain (λ _. T)) no (λ κs x f. tt) in
    let k = triple_of 𝓛 (Box.from_raw.signature X Z g d dd) (Box.from_raw.spec X Z g d dd 𝓛 𝓜.mem 𝓡.returns) in
    let calls = code.calls-std_alloc::boxed::Box::from_raw 𝓡.env wired in
    let known = boxed.from_raw.Met.met 𝓤 𝓛 𝓜 𝓡 calls X Z LX LZ g d dd allocates drops in
    proved_at 𝓛 En hs c 𝓜 𝓡 (goes, tt) (unboxed.into_box.Key.name args) fn
    (code.unfolded 𝓤 H 𝓜 𝓡 wired (X, (Z, tt)) d dd) (λ z are.
    let κs = z.0.0 in let qs = z.0.1 in let self = z.0.3.0 in let a = self.allocator in
    let Post : Val → SProp 𝓤 = (walk_of 𝓛 En hs c).post z in
    let alive_there = ‵ (flft κs.0 qs.0) ⊛ ‵ (flft κs.1.0 qs.1.0) ⊛ ‵ ftrue in
    let asked = raw ((c κs z.0.3).requires z.1) in
    qed 𝓛 ((alive_there ⊛ ‵ (owns (types_at En.signature.params κs) z.0.3 z.0.4)) ∷ asked ∷ []) ∵
    split ! $ move ! (1 ∷ []) $ fsplit ! $
    box_out E ! (record { ptr = self.pointer; alloc = a; value = self.value }) z.0.4.0 (λ b o h is_at is_val good. fjoin ! $
    -- [what is owned at the pointer; the handle; nothing; the lifetimes; what is required]
    let v : Val = box.word E h b o in let typed = box.box_typed E h b o good in
    let y : k.Ghost = ((κs, qs, tt, (a, (block_ptr b o, tt)), (h ∷ [], (vptr b o ∷ [], tt))), self.value) in
    let bounds = raw (fact 𝓤 (κs.0 ⊑ X.lives)) ⊛ raw (fact 𝓤 (κs.1.0 ⊑ Z.lives)) ⊛ ‵ ftrue in
    move ! (4 ∷ []) $ use1 𝓛 bounds (id⊢ 𝓤 _) $ split3 ! $ move ! (2 ∷ []) $ drop ! $ move ! (1 ∷ 2 ∷ []) $ join !
    $ move ! (1 ∷ 0 ∷ []) $ join ! $
    move ! (2 ∷ []) $ feq_i ! (List Val) (vptr b o ∷ []) (vptr b o ∷ []) refl $ fjoin ! $ move ! (2 ∷ 0 ∷ []) $ fjoin ! $
    move ! (2 ∷ 0 ∷ []) $ join ! $ join ! $ use1 𝓛 (raw (k.pre y)) (id⊢ 𝓤 _) $
    regoal ! (λ (us : List Val). prop (WpFn 𝓤 H 𝓣.C 𝓣.Λ fn us Post)) (λ i. is_val i ++ []) refl $
    enter ! 𝓣.C 𝓣.Λ fn (v ∷ []) Post $ alloc_all ! (λ l. pass_all ! refl (typed, tt) $
    let Ev = env fn.locals l in
    sets ! (of_opd ! (get_in ! (fld ! refl (stop !)) (sub ! 0 refl (whole !)))) refl (tt, tt) $
    sets ! (of_opd ! (get_in ! (fld ! refl (stop !)) (sub ! 1 refl (whole !)))) refl good $
    first ! $ blocks ! $ sets ! (of_opd ! (get ! refl)) refl good $
    calls_at_last ! (fm 𝓛 𝓜 𝓡) k known y (and_then ! (get ! refl) (and_then ! (get ! refl) (no_more !))) (λ u.
    let says = λ (r : B.Denot). raw (fact 𝓤 (r.value ≡ self.value)) ⊛ raw (fact 𝓤 (r.alloc ≡ a)) in
    let left = λ (r : B.Denot). some (λ (ls : Lasts (Box.from_raw.ended X Z g d dd) κs y.0.3).
    ‵ (lasts (Box.from_raw.ended X Z g d dd) κs y.0.3 ls) ⊛ says r) in
    use1 𝓛 (later (some (λ (r : B.Denot). (alive_there ⊛ ‵ (B.own_val r (u ∷ []))) ⊛ left r))) (id⊢ 𝓤 (k.post y u)) $
    await ! tt $ pick ! (λ r. split ! $ move ! (1 ∷ []) $ pick ! (λ _. split3 ! $ drop ! $ move ! (2 ∷ []) $ split ! $ move ! (1 ∷ []) $
    -- [the box; the lifetimes; its value; its allocator]
    box_out E ! r (u ∷ []) (λ b' o' h' is_at' is_val' good'. box_in E ! r b' o' r.value is_at' refl $
    rewrite ! 0 (λ (us : List Val). ‵ (B.own_val r us)) (sym is_val') refl $
    let typed' : Good (layout B) u = subst (Good (layout B)) (sym (ap only is_val')) (box.box_typed E h' b' o' good') in
    lands_last ! refl typed' $ exec ! 𝓣.C 𝓣.Λ Ev (after 3 fn.body) (at_ret Ev Post) $
    sets ! (of_opd ! (get ! refl)) refl typed' $ nothing ! $ nothing ! $ fjoin ! $
    returns ! (look_at ! 0 refl) $ free_all ! refl $ keep ! (2 ∷ 0 ∷ 1 ∷ 3 ∷ []) $
    by ! (leaves 𝓛 En hs c z u r ((tt, (tt, tt)), tt) (tt, tt)))))))))
