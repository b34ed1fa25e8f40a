-- `open_mut` lends what is held, if there is any, and the network follows it. Assumes `Logic`.
use Rattle.library_core.proofs.Words.{after, List, ◌∷◌, refl, sym, lit<, Bool, true, false, None, Some, [], MutBor, proved, box_owns, ftrue, flft, GName, full_share, never, fst∗, id⊢, tables, no, follows, follows_by, lone, cell_at, RattleType, Ptr, block_ptr, null_ptr, in_a_block, MutRef, mut_vals, mut_Tells, plain, mut_ref_to, nothing, opens, Stays, stay_dropped, walk_of, says, ends_at, Goes-spent_ref, bare, named, Val, vptr, vcons, vnil, alloc_all, pass_all, free_all, look_at, get, through, sets, sets_last, env, ‵, raw, ◌⊛◌, some, later, at_ret, ◌$◌, ◌∵◌, !, qed, done, move, keep, drop, use1, split, split3, join, fsplit, fsplit3, fjoin, pick, await, group, rewrite, suffices, frame, sem, live, agg, sub, look_in, whole, stop, fld, load, addr, of_opd, lit, un, no_more, and_then, first, blocks, branches, skips, exec, returns, returns_within, enter}
use Rattle.library_core.specs.Lending.{with_open_network}
use Rattle.library_core.specs.Owned.{chunk}
use Rattle.library_core.specs.contracts.held_network.HeldNetwork as network
use Rattle.library_core.specs.contracts.held_network.HeldNetwork.open_mut as f
use Rattle.library_core.specs.contracts.open_network.OpenNetwork as held
use Rattle.library_core.specs.declared.held_network.HeldNetwork.{HeldNetwork}
use Rattle.library_core.specs.declared.open_network.OpenNetwork.{OpenNetwork as Held}
use Rattle.library_core.proofs.Handles.{mote_val}
use Rattle.library_core.proofs.NetworkHandles.{seen, made}
use Rattle.library_core.proofs.Lent.{LentIf, Gives, by_state, stays, lends}
use Rattle.library_core.proofs.held_network.HeldNetwork.open_mut.Statement.{statement}
use Rattle.library_core.proofs.held_network.HeldNetwork.open_mut.Code as code

abbrev stayed : Stays f.ended.signature.params f.ended.kept
stayed = (stay_dropped (mut_ref_to (0 ∷ []) tt (plain (λ _. network.the_row))) no, tt)

pub open_mut_spec : {M : Type 1} → statement M
unfolding follows_by
open_mut_spec 𝓤 𝓛 𝓜 𝓡 wired =
    let c = f.clauses 𝓛 𝓜.mem 𝓡.returns in let W = walk_of 𝓛 f.ended stayed c in let 𝓣 = tables 𝓤 𝓛.H 𝓜 𝓡 𝓡.env in
    let S : RattleType = network.the_row in let R : RattleType = held.the_row in
    proved 𝓛 f.ended stayed c 𝓜 𝓡 (Goes-spent_ref 𝓛 1 (0 ∷ []) tt (plain (λ _. S)), tt)
    f.Key.name code.function (code.unfolded 𝓤 𝓛.H 𝓜 𝓡 wired)
    (λ κs. (mut_vals, tt)) (λ κs. (mut_Tells (named 0) κs.0 S, tt)) (λ κs qs bounds a _ are.
    let h : HeldNetwork = a.0.now in let rb = a.0.ref_ptr.0 in let ro = a.0.ref_ptr.1 in let γ = a.0.ghost_name in
    let κ = κs.0 in let q = qs.0 in let y : W.Ghost = ((κs, qs, bounds, a, (mut_vals a.0, tt)), tt) in let Out : RattleType = LentIf κ R in
    let Cell = λ (ws : List Val). ‵ (cell_at full_share S.mir ws rb ro) in
    qed 𝓛 (((‵ (flft κ q) ⊛ ‵ ftrue) ⊛ ‵ ((MutRef (named 0) κ S).own_val a.0 (mut_vals a.0)) ⊛ ‵ ftrue) ∷ ‵ ftrue ∷ []) ∵
    split ! $ split ! $ move ! (2 ∷ []) $ split ! $ keep ! (0 ∷ 2 ∷ []) $
    enter ! _ _ _ _ _ $ alloc_all ! (λ l. pass_all ! refl ((tt, tt), tt) $
    let Ev = env (code.function).locals l in
    fsplit3 ! $ drop ! $ opens ! tt S rb ro (λ us. move ! (1 ∷ []) $ seen ! h us (λ is_val. rewrite ! 1 Cell is_val refl $
    -- [what it owns; its cell; the open borrow; obs; auth]
    by_state ! R h.is_open h.held h.open_network
    (λ is_closed is_none.
    let word : List Val = mote_val h.held false ∷ [] in
    rewrite ! 0 (λ (b : Bool). Cell (mote_val h.held b ∷ [])) is_closed refl $
    sets ! (of_opd ! (load ! (through ! refl (fld ! refl (stop !))) (look_in ! 0 (sub ! 1 refl (whole !))))) refl (tt, tt) $
    sets ! (un ! (get ! refl) tt) refl (tt, tt) $
    first ! $ branches ! (get ! refl) (λ _.
    sets ! (agg ! (and_then ! (lit ! tt) (no_more !))) refl (tt, (record { fits = lit< tt }, tt)) $
    nothing ! $ made ! h.held false None $ rewrite ! 0 (λ (m : HeldNetwork). ‵ (S.own_val m word))
    (sym (λ i. record { held = h.held; is_open = is_closed i; open_network = is_none i })) refl $
    move ! (1 ∷ []) $ stays ! tt S R h word rb ro $
    returns_within ! (W.post y) refl (look_at ! 0 refl) $ free_all ! refl $ keep ! (0 ∷ 1 ∷ 2 ∷ []) $
    suffices ! _ (ends_at 𝓛 f.ended stayed c y (live 0 vnil) None (tt, tt) (tt, tt)) $
    nothing ! $ nothing ! $ fjoin ! $ join ! $ nothing ! $ move ! (2 ∷ 0 ∷ []) $ join ! $ join ! $ frame ! $ says ! is_none $ done !)
    (λ wrong. absurd wrong))
    (λ x is_open is_some.
    let nowhere = fst∗ 𝓤 (never 𝓤) (sem 𝓛 (chunk (bare (lone R.mir)) null_ptr)) in
    in_a_block ! h.held (λ p. box_owns chunk R p x) nowhere (λ b o is_block. fsplit ! $
    let p : Ptr = block_ptr b o in let word : List Val = mote_val p true ∷ [] in
    let holds = λ (w : Held). qed 𝓛 (‵ (box_owns chunk R p w) ∷ []) ∵ made ! p true (Some w) $
    rewrite ! 0 (λ (m : HeldNetwork). ‵ (S.own_val m word))
    (sym (λ i. record { held = is_block i; is_open = is_open i; open_network = Some w })) refl $ done ! in
    rewrite ! 2 Cell (λ i. mote_val (is_block i) (is_open i) ∷ []) refl $
    -- [the value; the right to free it; the cell; the open borrow; obs; auth]
    sets ! (of_opd ! (load ! (through ! refl (fld ! refl (stop !))) (look_in ! 2 (sub ! 1 refl (whole !))))) refl (tt, tt) $
    sets ! (un ! (get ! refl) tt) refl (tt, tt) $
    first ! $ branches ! (get ! refl) (λ wrong. absurd wrong) (λ _.
    skips ! $ exec ! 𝓣.C 𝓣.Λ Ev (after 3 (code.function).body) (at_ret Ev (W.post y)) $
    first ! $ blocks ! $
    sets ! (of_opd ! (load ! (through ! refl (fld ! refl (stop !))) (look_in ! 2 (sub ! 0 refl (whole !))))) refl (tt, tt) $
    sets ! (of_opd ! (get ! refl)) refl (tt, tt) $
    sets_last ! (addr ! (through ! refl (stop !))) refl (tt, tt) $
    exec ! 𝓣.C 𝓣.Λ Ev (after 4 (code.function).body) (at_ret Ev (W.post y)) $
    sets ! (of_opd ! (get ! refl)) refl (tt, tt) $
    sets ! (agg ! (and_then ! (lit ! tt) (and_then ! (get ! refl) (no_more !)))) refl (tt, (record { fits = lit< tt }, (tt, tt))) $
    group ! 6 $ use1 𝓛 (later (some (λ (δ : GName). raw (Gives 𝓛 S R (with_open_network h) word rb ro b o κ q γ holds x δ))))
    (lends 𝓛 S R (with_open_network h) word rb ro b o κ q γ holds (S.coded.code h) (S.coded.code h) x) $ await ! tt $ pick ! (λ δ.
    let r : MutBor Held = record { ref_ptr = (b, o); ghost_name = δ; now = x } in
    returns ! (look_at ! 0 refl) $ free_all ! refl $ keep ! (0 ∷ []) $
    use1 𝓛 (‵ (Out.own_val (Some r) (live 1 (vcons (vptr b o) vnil) ∷ [])) ⊛ ‵ (flft κ q) ⊛ ‵ (follows S R γ δ (with_open_network h)))
    (id⊢ 𝓤 _) $ split3 ! $
    suffices ! _ (ends_at 𝓛 f.ended stayed c y (live 1 (vcons (vptr b o) vnil)) (Some r) (tt, tt) (tt, tt)) $
    nothing ! $ nothing ! $ fjoin ! $ join ! $ nothing ! $ move ! (2 ∷ 0 ∷ []) $ join ! $ join ! $ frame ! $ says ! is_some $ done !))))))))
