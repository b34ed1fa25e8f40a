-- What `allocate` of `Global` returns: a block, or an error. Assumes `Logic`.
--     got            a proof's step: the two cases
use Rattle.arena_core.proofs.Words.{◌≡◌, ℕ, List, [], ◌∷◌, ◌++◌, ap, ◌∙◌, Val, Ptr, ent, sep, sem, never, Logic, fsep, ftrue, ‵, ◌$◌, ◌∵◌, !, qed, done, keep, drop, check, fsplit, fpick, feq_l, in_a_block, only, Bool, true, false, Ura, guard, fst∗, Ty, of_list, show, live, null_ptr, ptr_val, room_for, Fun, Memory, Routine, SProp, block_if_ok, Al, Answer, Answered, answer_val, token}
use mir.Syntax as syntax
use Rattle.core.specs.declared.result.Result.TheVariants.{Ok, Err}
use Rattle.core.proofs.alloc.Calls as calls
use Rattle.std_heap.specs.contracts.Global as Heap
use Rattle.std_heap.proofs.Global.TheLaws as heap
use Rattle.std_heap.specs.contracts.GlobalAllocator.TheImpl.{ghosts}

abbrev pub Z : Al
Z = record { row = Heap.the_row; laws = heap.the_row_laws; g = ghosts; d = syntax.given 0; drops = syntax.given 0 }

module _ {M : Type 1} {𝓤 : Ura M} (𝓛 : Logic 𝓤) (mem : Memory → SProp 𝓤) (run : Routine → Fun 𝓤) (a : Heap.the_row.Denot) (τ : Ty)
    (v : Val) where
  pub answered : (r : Answer.Denot)
      → ent 𝓤 (sep 𝓤 (sem 𝓛 (Answer.own_val r (v ∷ []))) (sem 𝓛 (block_if_ok (token Z a) τ r))) (Answered Z 𝓛 mem run a τ v)
  answered (Ok r) =
      qed 𝓛 (‵ (Answer.own_val (Ok r) (v ∷ [])) ∷ ‵ (fsep (room_for τ r) (token Z a τ r)) ∷ []) ∵
      fpick ! (λ us. fsplit ! $ feq_l ! (λ e. fpick ! (λ vss. fsplit ! $ feq_l ! (λ e'. fsplit ! $ feq_l ! (λ e''. drop ! $
      in_a_block ! r (λ z. fsep (room_for τ z) (token Z a τ z)) (fst∗ 𝓤 (never 𝓤) (sem 𝓛 (token Z a τ null_ptr))) (λ b o at.
      show ! (λ (c : Bool × (ℕ × ℕ)). guard 𝓤 (v ≡ answer_val c.0 c.1.0 c.1.1) (sem 𝓛 (calls.got (token Z a) τ c.0 c.1.0 c.1.1)))
      (true, (b, o)) $
      check ! (ap only e ∙ ap (λ (ws : List Val). live 0 (of_list ws))
      (e' ∙ ap (λ (ws : List Val). ws ++ []) (e'' ∙ ap (λ (z : Ptr). ptr_val z ∷ []) at))) $ done !))))))
  answered (Err n) =
      qed 𝓛 (‵ (Answer.own_val (Err n) (v ∷ [])) ∷ ‵ ftrue ∷ []) ∵
      fpick ! (λ us. fsplit ! $ feq_l !
      (λ e. fpick ! (λ vss. fsplit ! $ feq_l ! (λ e'. fsplit ! $ fpick ! (λ none. fsplit ! $ feq_l ! (λ e''. keep ! [] $
      show ! (λ (c : Bool × (ℕ × ℕ)). guard 𝓤 (v ≡ answer_val c.0 c.1.0 c.1.1) (sem 𝓛 (calls.got (token Z a) τ c.0 c.1.0 c.1.1)))
      (false, (0, 0)) $
      check ! (ap only e ∙ ap (λ (ws : List Val). live 1 (of_list ws)) (e' ∙ ap (λ (ws : List Val). ws ++ []) e'')) $ done !))))))
