-- The machine value of a network that C holds, and what it owns. Assumes `Logic`.
--     made, seen    a network is made of what it owns, and is taken apart into that
use Rattle.std.proofs.Common.{◌≡◌, ◌∙◌, List, ◌∷◌, ◌++◌, refl, Bool, Option, []}
use Rattle.std_alloc.proofs.BoxSteps.Form as box
use Rattle.std_heap.proofs.Global.TheLaws as global_laws
use Rattle.std_heap.specs.contracts.Global as global
use Rattle.std_heap.specs.contracts.GlobalAllocator.TheImpl.{ghosts}
use Rattle.library_core.proofs.open_network.OpenNetwork.TheLaws as held_laws
use Rattle.library_core.specs.Owned.{network_owns}
use Rattle.library_core.specs.contracts.held_network.HeldNetwork as network
use Rattle.library_core.specs.contracts.open_network.OpenNetwork as held
use Rattle.library_core.specs.declared.held_network.HeldNetwork.{HeldNetwork}
use Rattle.library_core.specs.declared.open_network.OpenNetwork.{OpenNetwork as Held}
use denote.Builtin.{RawPtr, bool}
use denote.RattleType.{Valss}
use denote.RawPtr.{Ptr, ptr_val}
use denote.Steps.{nothing}
use denote.Struct.Owning.{shape}
use denote.Struct.Struct.{within}
use mir.Syntax.{impl, tnil, dnil}
use mir.Val.{Val, vbool, vstruct, of_list}
use seplogic.Ra.Ura.{Ura}
use types.Kit.{Item, Goal, Seq, Step, step, ‵, ◌$◌, drop, fsplit, fjoin, fpick, fpack, feq_i, feq_l}
use types.Logic.{Logic}
use Rattle.library_core.proofs.Handles.{mote_val}

module _ {M : Type 1} {𝓤 : Ura M} {𝓛 : Logic 𝓤} {K : Type 0} {Γ : List (Item 𝓤)} {G : Goal 𝓤 𝓛.H} where
  pub made : K → (p : Ptr) (is_open : Bool) (value : Option Held)
      → Step K 𝓛 (‵ (network.the_row.own_val (record { held = p; is_open = is_open; open_network = value }) (mote_val p is_open ∷ [])) ∷ Γ) G
      (‵ (network_owns is_open p value) ∷ Γ) G
  made t p is_open value = step (λ rest.
      let v : Val = mote_val p is_open in
      nothing t $ feq_i t (List Val) (vbool is_open ∷ []) (vbool is_open ∷ []) refl $ fjoin t $
      feq_i t (List Val) (ptr_val p ∷ []) (ptr_val p ∷ []) refl $ fjoin t $
      feq_i t (List Val) (v ∷ []) (v ∷ []) refl $ fjoin t $
      fpack t (Valss (RawPtr ∷ bool ∷ [])) (within (shape network.the_type) (p, (is_open, tt)) (v ∷ []))
      (ptr_val p ∷ [], (vbool is_open ∷ [], tt)) $ fjoin t $ rest)

  pub seen : K → (m : HeldNetwork) (vs : List Val)
      → (vs ≡ mote_val m.held m.is_open ∷ [] → Seq K 𝓛 (‵ (network_owns m.is_open m.held m.open_network) ∷ Γ) G)
      → Seq K 𝓛 (‵ (network.the_row.own_val m vs) ∷ Γ) G
  seen t m vs goes_on =
      fsplit t $ fpick t (λ vss. fsplit t $ feq_l t (λ is_both. fsplit t $ feq_l t (λ is_pointer. fsplit t $ feq_l t (λ is_flag. drop t $
      goes_on (is_both ∙ (λ i. vstruct (of_list (is_pointer i ++ (is_flag i ++ []))) ∷ []))))))

-- what an open network has, in a box
abbrev pub kept : box.Bx
kept = record {
  row = held.the_row;
  laws = held_laws.the_row_laws;
  al = record { row = global.the_row; laws = global_laws.the_row_laws; g = ghosts; d = impl [] tnil dnil; drops = impl [] tnil dnil };
}
