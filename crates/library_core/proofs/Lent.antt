-- A struct that C holds lends what it has on the heap: steps for each such struct, by its row S and the row R of what it holds.
-- Assumes `Logic`.
--     by_state      it is open or closed, as its two fields say
--     lends         an open one gives a `&mut` to what it holds, and follows that
--     stays         a closed one gives none, and stays as it is
use Rattle.core.proofs.option.Made.{Some-of, none_of}
use Rattle.core.specs.contracts.option.Option as option
use Rattle.std.proofs.Common.{◌≡◌, ℕ, List, ◌∷◌, Bool, true, false, Option, None, Some, [], refl, MutBor}
use Rattle.std_alloc.specs.Box.Ownership.{box_owns}
use Rattle.library_core.specs.Owned.{chunk, owned_if}
use base.Fml.{Fml, Lft, GName, Share, fsep, flft, fobs, fauth, fobor, fres}
use base.Fraction.{full_share}
use base.Logic.{SProp, ent, sep, ex, never_e, id⊢}
use base.Stored.{Gv}
use denote.Follow.{follows, Part, lends_Part}
use denote.Memory.{lone, cell_at, part_at, part_of, mem}
use denote.RattleType.{RattleType}
use denote.RawPtr.{Ptr, block_ptr}
use denote.Ref.{MutRef}
use denote.Steps.{closes}
use mir.Raw.{raw as bare}
use mir.Syntax.{named}
use mir.Val.{Val, vptr, vcons, vnil}
use seplogic.Ra.Ura.{Ura}
use types.Kit.{Item, Goal, Soaks, Seq, Step, step, ‵, raw, ◌⊛◌, some, later, ◌$◌, ◌∵◌, !, qed, by, done, move, keep, drop, use0, use1, split3, fsplit, fjoin, fpack, pick, await, group, updating, now, show}
use types.Logic.{Logic, sem}
use types.Match.{live}
use types.SemTy.{Body as Borrowed}

-- a `&mut` to what is held, if there is one
abbrev pub LentIf : Lft → RattleType → RattleType
LentIf κ R = option.the_row (MutRef (named 0) κ R)

module _ {M : Type 1} {𝓤 : Ura M} {𝓛 : Logic 𝓤} {K : Type 0} {Γ : List (Item 𝓤)} {G : Goal 𝓤 𝓛.H} where
  pub by_state : K → (R : RattleType) (is_open : Bool) (p : Ptr) (value : Option R.Denot)
      → (is_open ≡ false → value ≡ None → Seq K 𝓛 Γ G)
      → ((x : R.Denot) → is_open ≡ true → value ≡ Some x → Seq K 𝓛 (‵ (box_owns chunk R p x) ∷ Γ) G)
      → Seq K 𝓛 (‵ (owned_if is_open R p value) ∷ Γ) G
  by_state t R true p (Some x) if_closed if_open = if_open x refl refl
  by_state t R false p None if_closed if_open = drop t $ if_closed refl refl
  by_state t R is_open p value if_closed if_open = keep t (0 ∷ []) $ by t (never_e 𝓤 _)

  pub stays : K → Soaks G → (S R : RattleType) {κ : Lft} {q : Share} {u v : Gv} {γ : GName} (h : S.Denot) (vs : List Val) (b o : ℕ)
      → Step K 𝓛
      (‵ ((LentIf κ R).own_val None (live 0 vnil ∷ [])) ∷ ‵ (flft κ q) ∷ ‵ (fres γ (S.coded.code h)) ∷ Γ) G
      (‵ (cell_at full_share S.mir vs b o) ∷ ‵ (S.own_val h vs) ∷ ‵ (fobor κ q (Borrowed (mem S) b o γ)) ∷ ‵ (fobs γ u)
      ∷ ‵ (fauth γ v) ∷ Γ) G
  stays t s S R {κ} {γ = γ} h vs b o = step (λ next.
      closes t s S h vs b o $
      use1 𝓛 (‵ (fres γ (S.coded.code h))) (𝓛.names.obs-res γ (S.coded.code h)) $ move t (1 ∷ []) $ drop t $ move t (1 ∷ []) $
      use0 𝓛 (‵ ((LentIf κ R).own_val None (live 0 vnil ∷ []))) (none_of 𝓛 (MutRef (named 0) κ R)) $ next)

-- The struct lies at (sb, so) as word, what it holds at (b, o). With w there the struct is F w.
module _ {M : Type 1} {𝓤 : Ura M} (𝓛 : Logic 𝓤) (S R : RattleType) (F : R.Denot → S.Denot) (word : List Val) (sb so b o : ℕ)
    (κ : Lft) (q : Share) (γ : GName)
    (holds : (w : R.Denot) → ent 𝓤 (sem 𝓛 (box_owns chunk R (block_ptr b o) w)) (sem 𝓛 (S.own_val (F w) word))) where
  open 𝓛 use {H, A}

  abbrev token : Fml
  token = chunk (bare (lone R.mir)) (block_ptr b o)

  abbrev Cell : List Val → Fml
  Cell us = cell_at full_share S.mir us sb so

  -- all of the struct but what it lends
  abbrev Rest : Fml
  Rest = fsep token (Cell word)

  back : (w : R.Denot) → ent 𝓤 (sep 𝓤 (sem 𝓛 ((mem R).own_at w b o)) (sem 𝓛 Rest)) (sem 𝓛 ((mem S).own_at (F w) sb so))
  unfolding part_of
  back w =
      qed 𝓛 (‵ (part_at R full_share w b o) ∷ ‵ Rest ∷ []) ∵ move ! (1 ∷ []) $ fsplit ! $ move ! (2 ∷ 0 ∷ []) $ fjoin ! $
      use1 𝓛 (‵ (S.own_val (F w) word)) (holds w) $ move ! (1 ∷ []) $ fjoin ! $
      fpack ! (List Val) (λ us. fsep (Cell us) (S.own_val (F w) us)) word $ done !

  abbrev Lent : R.Denot → GName → MutBor R.Denot
  Lent x δ = record { ref_ptr = (b, o); ghost_name = δ; now = x }

  -- a `&mut` of this name is given, and the struct follows it
  abbrev pub Gives : R.Denot → GName → SProp 𝓤
  Gives x δ = sep 𝓤 (sem 𝓛 ((LentIf κ R).own_val (Some (Lent x δ)) (live 1 (vcons (vptr b o) vnil) ∷ [])))
      (sep 𝓤 (A.lft κ q) (sem 𝓛 (follows S R γ δ F)))

  abbrev Opened : R.Denot → Gv → Gv → SProp 𝓤
  Opened x u v = sep 𝓤 (sem 𝓛 (part_at R full_share x b o)) (sep 𝓤 (sem 𝓛 token) (sep 𝓤 (sem 𝓛 (Cell word))
      (sep 𝓤 (A.obor κ q (Borrowed (mem S) sb so γ)) (sep 𝓤 (A.obs γ u) (A.auth γ v)))))

  pub lends : (u v : Gv) (x : R.Denot) → ent 𝓤 (Opened x u v) (H.⇛ (ex 𝓤 (Gives x)))
  lends u v x =
      qed 𝓛 (‵ (part_at R full_share x b o) ∷ ‵ token ∷ ‵ (Cell word) ∷ ‵ (fobor κ q (Borrowed (mem S) sb so γ)) ∷ ‵ (fobs γ u)
      ∷ ‵ (fauth γ v) ∷ []) ∵ updating ! $
      move ! (1 ∷ 2 ∷ []) $ fjoin ! $ move ! (2 ∷ 3 ∷ 4 ∷ 1 ∷ 0 ∷ []) $ group ! 5 $
      use1 𝓛 (later (some (λ (δ : GName). raw (Part 𝓛 S R F (named 0) κ q sb so b o γ (sem 𝓛 Rest) back x δ))))
      (lends_Part 𝓛 S R F (named 0) κ q sb so b o γ (sem 𝓛 Rest) back u v x) $ await ! tt $ pick ! (λ δ.
      use1 𝓛 (‵ ((MutRef (named 0) κ R).own_val (Lent x δ) (vptr b o ∷ [])) ⊛ ‵ (flft κ q) ⊛ ‵ (follows S R γ δ F)) (id⊢ 𝓤 _) $ split3 ! $
      use1 𝓛 (‵ ((LentIf κ R).own_val (Some (Lent x δ)) (live 1 (vcons (vptr b o) vnil) ∷ [])))
      (Some-of 𝓛 (MutRef (named 0) κ R) (Lent x δ) (vptr b o)) $ now ! $ show ! (Gives x) δ $ done !)
