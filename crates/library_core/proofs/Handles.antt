-- The machine value of a mote that C holds, and what it owns. Assumes `Logic`.
--     made, seen    a mote is made of what it owns, and is taken apart into that
use Rattle.std.proofs.Common.{◌≡◌, ◌∙◌, List, ◌∷◌, ◌++◌, refl, lit<, Bool, true, Option, []}
use Rattle.std_alloc.proofs.BoxSteps.Form as box
use Rattle.std_heap.proofs.Global.TheLaws as global_laws
use Rattle.std_heap.specs.contracts.Global as global
use Rattle.std_heap.specs.contracts.GlobalAllocator.TheImpl.{ghosts}
use Rattle.library_core.proofs.open_mote.OpenMote.TheLaws as held_laws
use Rattle.library_core.specs.Owned.{mote_owns}
use Rattle.library_core.specs.contracts.mote.Mote as mote
use Rattle.library_core.specs.contracts.open_mote.OpenMote as held
use Rattle.library_core.specs.declared.mote.Mote.{Mote}
use Rattle.library_core.specs.declared.open_mote.OpenMote.{OpenMote as Held}
use base.Logic.{emp}
use contract.Monad.{fact, fact_i}
use denote.Builtin.{RawPtr, bool}
use denote.RattleType.{Valss}
use denote.RawPtr.{Ptr, block_ptr, null_ptr, ptr_val}
use denote.Steps.{nothing}
use denote.Struct.Owning.{shape}
use denote.Struct.Struct.{within}
use lib.Dec.{T}
use mathlib.Core.Bool.{◌&&◌}
use mir.Syntax.{impl, tnil, dnil, ty_ptr, ty_bool}
use mir.Val.{Val, vbool, vstruct, vcons, vnil, of_list, has_ty, WT}
use seplogic.Ra.Ura.{Ura}
use types.Kit.{Item, Goal, Seq, Step, step, ‵, raw, ◌$◌, drop, fsplit, fjoin, fpick, fpack, use0, feq_i, feq_l}
use types.Logic.{Logic}

-- the pointer, and whether it is open
abbrev pub mote_val : Ptr → Bool → Val
mote_val p is_open = vstruct (vcons (ptr_val p) (vcons (vbool is_open) vnil))

pub mote_good : (p : Ptr) (is_open : Bool) → T (has_ty ty_ptr (ptr_val p) && (has_ty ty_bool (vbool is_open) && true))
    × WT (mote_val p is_open)
mote_good null_ptr is_open = (tt, (record { fits = lit< tt }, (tt, tt)))
mote_good (block_ptr b o) is_open = (tt, (tt, (tt, tt)))

module _ {M : Type 1} {𝓤 : Ura M} {𝓛 : Logic 𝓤} {K : Type 0} {Γ : List (Item 𝓤)} {G : Goal 𝓤 𝓛.H} where
  pub told : K → (P : Type 0) → P → Step K 𝓛 (raw (fact 𝓤 P) ∷ Γ) G Γ G
  told t P p = use0 𝓛 (raw (fact 𝓤 P)) (fact_i 𝓤 P (emp 𝓤) p)

  pub made : K → (p : Ptr) (is_open : Bool) (value : Option Held)
      → Step K 𝓛 (‵ (mote.the_row.own_val (record { held = p; is_open = is_open; open_mote = value }) (mote_val p is_open ∷ [])) ∷ Γ) G
      (‵ (mote_owns is_open p value) ∷ Γ) G
  made t p is_open value = step (λ rest.
      let v : Val = mote_val p is_open in
      nothing t $ feq_i t (List Val) (vbool is_open ∷ []) (vbool is_open ∷ []) refl $ fjoin t $
      feq_i t (List Val) (ptr_val p ∷ []) (ptr_val p ∷ []) refl $ fjoin t $
      feq_i t (List Val) (v ∷ []) (v ∷ []) refl $ fjoin t $
      fpack t (Valss (RawPtr ∷ bool ∷ [])) (within (shape mote.the_type) (p, (is_open, tt)) (v ∷ []))
      (ptr_val p ∷ [], (vbool is_open ∷ [], tt)) $ fjoin t $ rest)

  pub seen : K → (m : Mote) (vs : List Val)
      → (vs ≡ mote_val m.held m.is_open ∷ [] → Seq K 𝓛 (‵ (mote_owns m.is_open m.held m.open_mote) ∷ Γ) G)
      → Seq K 𝓛 (‵ (mote.the_row.own_val m vs) ∷ Γ) G
  seen t m vs goes_on =
      fsplit t $ fpick t (λ vss. fsplit t $ feq_l t (λ is_both. fsplit t $ feq_l t (λ is_pointer. fsplit t $ feq_l t (λ is_flag. drop t $
      goes_on (is_both ∙ (λ i. vstruct (of_list (is_pointer i ++ (is_flag i ++ []))) ∷ []))))))

-- what an open mote has, in a box
abbrev pub kept : box.Bx
kept = record {
  row = held.the_row;
  laws = held_laws.the_row_laws;
  al = record { row = global.the_row; laws = global_laws.the_row_laws; g = ghosts; d = impl [] tnil dnil; drops = impl [] tnil dnil };
}
