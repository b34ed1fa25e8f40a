-- `of` keeps the pointer without its type. Assumes `Logic`.
use Rattle.core.proofs.alloc.Calls.{Goes-blank}
use Rattle.std.proofs.Common.{◌≡◌, List, ◌∷◌, ◌++◌, refl, true, Some, []}
use Rattle.std.proofs.raw_atomic.Walks.{proved_at, leaves}
use Rattle.std_alloc.proofs.BoxSteps.Form as box
use Rattle.std_alloc.proofs.BoxSteps.Steps.{box_out}
use Rattle.std_heap.specs.contracts.Global as global
use Rattle.std_heap.specs.contracts.GlobalAllocator.TheImpl.{ghosts}
use Rattle.library_core.specs.contracts.held_network.HeldNetwork as network
use Rattle.library_core.specs.contracts.open_network.OpenNetwork as held
use Rattle.library_core.specs.contracts.unboxed.Unboxed as unboxed
use base.Fml.{ftrue}
use base.Logic.{SProp}
use contract.Running.{tables}
use denote.Exit.{yes}
use denote.RattleType.{RattleType, owns}
use denote.RawPtr.{Ptr, block_ptr}
use denote.Signature.{types_at, plain}
use denote.Steps.{nothing}
use denote.Triple.Entry.{alive}
use denote.Triple.Walked.{Stays, stay_dropped, walk_of}
use mir.Syntax.{Fn}
use mir.Val.{Val}
use prog.Wp.{WpFn}
use types.ByLocal.{alloc_all, pass_all, free_all, look_at, get, get_in, sets}
use types.Kit.{‵, raw, ◌⊛◌, prop, ◌$◌, ◌∵◌, !, qed, by, move, keep, split, regoal, fsplit, fjoin}
use types.Part.{agg, sub, whole}
use types.Run.{stop, fld, of_opd, true_lit, no_more, and_then, returns, enter}
use Rattle.library_core.proofs.Handles.{mote_val, mote_good, told}
use Rattle.library_core.proofs.NetworkHandles.{made, kept}
use Rattle.library_core.proofs.held_network.HeldNetwork.of.Statement.{statement}
use Rattle.library_core.proofs.held_network.HeldNetwork.of.Code as code

pub of_spec : {M : Type 1} → statement M
of_spec 𝓤 𝓛 𝓜 𝓡 wired =
    let H = 𝓛.H in let 𝓣 = tables 𝓤 H 𝓜 𝓡 𝓡.env in let En = network.of.ended in let c = network.of.clauses 𝓛 𝓜.mem 𝓡.returns in
    let Given : RattleType = unboxed.the_row held.the_row global.the_row ghosts in
    let fn : Fn = code.function in
    let hs : Stays En.signature.params En.kept = (stay_dropped (plain (λ _. Given)) yes, tt) in
    let goes = Goes-blank 𝓛 0 (plain (λ _. Given)) yes (λ κs x f. tt) in
    proved_at 𝓛 En hs c 𝓜 𝓡 (goes, tt) network.of.Key.name fn (code.unfolded 𝓤 H 𝓜 𝓡 wired) (λ z are.
    let Post : Val → SProp 𝓤 = (walk_of 𝓛 En hs c).post z in let parts = z.0.3.0 in let x = parts.value in
    let entry = raw (alive 𝓛 En.signature z.0.0 z.0.1) ⊛ ‵ (owns (types_at En.signature.params z.0.0) z.0.3 z.0.4) in
    qed 𝓛 (entry ∷ ‵ ftrue ∷ []) ∵ split ! $ move ! (1 ∷ []) $ fsplit ! $
    box_out kept ! (record { ptr = parts.pointer; alloc = parts.allocator; value = x }) z.0.4.0 (λ b o h is_at is_val good. fjoin ! $
    -- [the value on the heap; the allocator's handle; nothing; the lifetimes; what is required]
    let p : Ptr = block_ptr b o in
    keep ! (0 ∷ 3 ∷ []) $ regoal ! (λ (us : List Val). prop (WpFn 𝓤 H 𝓣.C 𝓣.Λ fn us Post)) (λ i. is_val i ++ []) refl $
    enter ! 𝓣.C 𝓣.Λ fn (box.word kept h b o ∷ []) Post $ alloc_all ! (λ l. pass_all ! refl (box.box_typed kept h b o good, tt) $
    sets ! (of_opd ! (get_in ! (fld ! refl (stop !)) (sub ! 0 refl (whole !)))) refl (tt, tt) $
    sets ! (of_opd ! (get ! refl)) refl (tt, tt) $
    sets ! (agg ! (and_then ! (get ! refl) (and_then ! (true_lit !) (no_more !)))) refl (mote_good p true) $
    made ! p true (Some x) $ told ! (Some x ≡ Some x) refl $ nothing ! $ nothing ! $ fjoin ! $
    returns ! (look_at ! 0 refl) $ free_all ! refl $ keep ! (3 ∷ 0 ∷ 2 ∷ 1 ∷ []) $
    by ! (leaves 𝓛 En hs c z (mote_val p true) (record { held = p; is_open = true; open_network = Some x }) (tt, tt) (tt, tt)))))
