-- A `&` to the block, taken apart. Assumes `Logic`.
--     seen         it is one to the fields, and one to the bytes
--     shows_ptr    one to the fields shows the pointer
use Rattle.arena_core.proofs.Words.{◌≡◌, ℕ, ◌+◌, ◌≤◌, List, [], ◌∷◌, length, refl, sym, ◌∙◌, w64, ent, sep, sem, id⊢, Logic, Lft, Fml, Val, Ptr, full_share, fsep, fhide, fact, ‵, raw, ◌⊛◌, ◌$◌, ◌∵◌, !, qed, by, done, move, keep, drop, use1, use2, use3, split, fsplit, fsplit3, fjoin, fpack, feq_i, rewrite, cell_at, part_at, mem, Array, lies_at, block_ptr, u8, RawPtr, block_of, count_of, InBlock, hidden_shr, elements_shared, Ura, feq, cells, part_of, row, whole_in, whole_out, Array-apart, Array-whole, bytes_type, chunk, written, with_bytes, with_range, length-written, RattleType, RowLaws, shr_dup, unhide, hide, ptr_row_laws, Struct, Struct-row_laws, shape, to, in_block_says, lent_out, Block}
use Rattle.arena_core.proofs.Runs.{Around, run_in, TwoRuns}
use denote.Plain.{uint_row_laws}
use Rattle.arena_core.specs.contracts.block.Block as C

abbrev pub Words : RattleType
Words = Struct (shape C.the_type)

abbrev pub fields : Block → Words.Denot
fields d = to C.the_type d

laws : RowLaws Words
laws = Struct-row_laws (shape C.the_type) (ptr_row_laws, (uint_row_laws w64, tt))

module _ {M : Type 1} {𝓤 : Ura M} (𝓛 : Logic 𝓤) (κ : Lft) (b o : ℕ) (d : Block) where
  abbrev S : Fml
  S = hidden_shr Words κ (fields d) b o

  pub shows_ptr : ent 𝓤 (sem 𝓛 S) (sep 𝓤 (sem 𝓛 (hidden_shr RawPtr κ d.ptr b (o + 0))) (sem 𝓛 S))
  shows_ptr = qed 𝓛 (‵ S ∷ []) ∵ shr_dup ! Words laws (fields d) b o κ $ unhide ! $ fsplit ! $ fsplit ! $ hide !
      $ keep ! (0 ∷ 3 ∷ []) $ done !

  pub seen : ent 𝓤 (sem 𝓛 (hidden_shr C.the_row κ d b o))
      (sep 𝓤 (fact 𝓤 (InBlock d.ptr)) (sep 𝓤 (sem 𝓛 (elements_shared u8 d.bytes (block_of d.ptr) (count_of d.ptr) κ)) (sem 𝓛 S)))
  seen = qed 𝓛 (‵ (hidden_shr C.the_row κ d b o) ∷ []) ∵
      use1 𝓛 (‵ S ⊛ ‵ (fhide (C.the_lent d d.ptr κ))) (lent_out 𝓛 C.struct C.the_codes C.the_heap C.the_lent κ d b o) $ split ! $
      move ! (1 ∷ []) $ unhide ! $ fsplit ! $ use1 𝓛 (raw (fact 𝓤 (InBlock d.ptr))) (in_block_says 𝓛 d.ptr) $ move ! (1 ∷ []) $ fsplit !
      $ drop ! $ move ! (1 ∷ 0 ∷ 2 ∷ []) $ done !

-- the same block after a write to a range at a, and then to one at b
abbrev pub with_pair : Block → ℕ → ℕ → List ℕ → List ℕ → Block
with_pair s a b ws us = with_bytes s (written (written s.bytes a ws) b us)
    (length-written (written s.bytes a ws) b us ∙ length-written s.bytes a ws)

-- a `&mut` to the block, taken apart
module _ {M : Type 1} {𝓤 : Ura M} (𝓛 : Logic 𝓤) (h : Block) (rb ro : ℕ) (us : List Val) where
  -- all but the bytes
  abbrev Keep : Fml
  Keep = fsep (chunk (bytes_type h.len) h.ptr) (fsep (Words.own_val (fields h) us) (cell_at full_share C.the_row.mir us rb ro))

  pub bytes_out : (b o : ℕ) → ent 𝓤 (sem 𝓛 (part_at (Array u8 h.len) full_share h.bytes b o)) (sem 𝓛 (cells (mem u8) h.bytes b o))
  bytes_out b o = qed 𝓛 (‵ (part_at (Array u8 h.len) full_share h.bytes b o) ∷ []) ∵
      use1 𝓛 (‵ (fsep (feq ℕ (length h.bytes) h.len) (row u8 full_share h.bytes b o))) (Array-apart 𝓛 u8 full_share tt h.len h.bytes b o)
      $ fsplit ! $ drop ! $ by ! (whole_in 𝓛 u8 h.bytes b o)

  -- with ys for its bytes, it is the block again
  made : (b o : ℕ) → h.ptr ≡ block_ptr b o → (ys : List ℕ) (e : length ys ≡ length h.bytes)
      → ent 𝓤 (sep 𝓤 (sem 𝓛 (cells (mem u8) ys b o)) (sem 𝓛 Keep)) (sem 𝓛 ((mem C.the_row).own_at (with_bytes h ys e) rb ro))
  unfolding part_of
  made b o at ys e = qed 𝓛 (‵ (cells (mem u8) ys b o) ∷ ‵ Keep ∷ []) ∵
      use1 𝓛 (‵ (row u8 full_share ys b o)) (whole_out 𝓛 u8 ys b o) $ feq_i ! ℕ (length ys) h.len (e ∙ sym h.ok.0) $ fjoin ! $
      use1 𝓛 (‵ (part_at (Array u8 h.len) full_share ys b o)) (Array-whole 𝓛 u8 full_share h.len ys b o) $
      use1 𝓛 (‵ (lies_at (Array u8 h.len) full_share (block_ptr b o) ys)) (id⊢ 𝓤 _)
      $ rewrite ! 0 (λ (p : Ptr). ‵ (lies_at (Array u8 h.len) full_share p ys)) (sym at) refl $
      move ! (1 ∷ []) $ fsplit3 ! $ move ! (3 ∷ 0 ∷ []) $ fjoin ! $ move ! (1 ∷ 0 ∷ []) $ fjoin ! $ move ! (1 ∷ 0 ∷ []) $ fjoin ! $
      fpack ! (List Val) (λ vs. fsep (cell_at full_share C.the_row.mir vs rb ro) (C.the_row.own_val (with_bytes h ys e) vs)) us $ done !

  module _ (at len : ℕ) (le : at + len ≤ length h.bytes) (b o : ℕ) (is : h.ptr ≡ block_ptr b o) where
    abbrev pub Rest : Fml
    Rest = fsep (Around 𝓛 b o h.bytes at len le) Keep

    -- with ws in place of a run of its length, it is the block again
    pub back : (ws : List ℕ) → length ws ≡ len
        → ent 𝓤 (sep 𝓤 (sem 𝓛 (cells (mem u8) ws b (at + o))) (sem 𝓛 Rest)) (sem 𝓛 ((mem C.the_row).own_at (with_range h at ws) rb ro))
    back ws e = qed 𝓛 (‵ (cells (mem u8) ws b (at + o)) ∷ ‵ Rest ∷ []) ∵ move ! (1 ∷ []) $ fsplit ! $ move ! (2 ∷ 0 ∷ []) $
        use2 𝓛 (‵ (cells (mem u8) (written h.bytes at ws) b o)) (run_in 𝓛 b o h.bytes at len le ws e)
        $ by ! (made b o is (written h.bytes at ws) (length-written h.bytes at ws))

  module _ (at len to more : ℕ) (b o : ℕ) (is : h.ptr ≡ block_ptr b o) (two : TwoRuns 𝓛 b o h.bytes at len to more) where
    abbrev pub Rest₂ : Fml
    Rest₂ = fsep two.rest Keep

    -- the same of two runs
    pub back₂ : (ws vs : List ℕ) → length ws ≡ len → length vs ≡ more
        → ent 𝓤 (sep 𝓤 (sem 𝓛 (cells (mem u8) ws b (at + o))) (sep 𝓤 (sem 𝓛 (cells (mem u8) vs b (to + o))) (sem 𝓛 Rest₂)))
        (sem 𝓛 ((mem C.the_row).own_at (with_pair h at to ws vs) rb ro))
    back₂ ws vs e f = qed 𝓛 (‵ (cells (mem u8) ws b (at + o)) ∷ ‵ (cells (mem u8) vs b (to + o)) ∷ ‵ Rest₂ ∷ []) ∵ move ! (2 ∷ [])
        $ fsplit ! $ move ! (2 ∷ 3 ∷ 0 ∷ []) $
        use3 𝓛 (‵ (cells (mem u8) (written (written h.bytes at ws) to vs) b o)) (two.back ws vs e f) $
        by ! (made b o is (written (written h.bytes at ws) to vs)
        (length-written (written h.bytes at ws) to vs ∙ length-written h.bytes at ws))
