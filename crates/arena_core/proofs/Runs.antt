-- Bytes side by side in memory. Assumes `Logic`.
--     cut, glue            they are cut in two, and put together
--     run_out, run_in      a run of them is taken out, and as many bytes are put in its place
--     two_runs             the same of two runs that do not meet
--     run_seen             a `&` to bytes is one to a run of them
use Rattle.arena_core.proofs.Words.{◌≡◌, ℕ, ◌+◌, ◌-◌, ◌≤◌, ◌⊎◌, inl, inr, List, [], ◌∷◌, ◌++◌, length, take, refl, sym, ap, ◌∙◌, arith, ent, sem, sep, Logic, Lft, Fml, fsep, ‵, ◌⊛◌, ◌$◌, ◌∵◌, !, qed, by, done, move, use1, use2, use3, split, fsplit, fjoin, rewrite, u8, elements_shared, mem, shared_of, cells, Ura, written}
use Rattle.std.proofs.lemmas.List.{drop-take, take-take}
use lib.ListN.{drop as drop_l, length-drop, length-take, take-append-drop}
use lib.Seq.{drop-drop}
use borrow.Table.Elements.{at_byte, length-take-le, cut_app, join_app}
use borrow.Table.Elements as elements
use borrow.Table.SharedPart.{each_take, each-drop}
use Rattle.arena_core.proofs.Rows.{drop-written, length-written, take-written, written-append_left, written_is}

module _ {M : Type 1} {𝓤 : Ura M} (𝓛 : Logic 𝓤) (b : ℕ) where
  abbrev pub Row : ℕ → List ℕ → Fml
  Row o xs = cells (mem u8) xs b o

  cut : (xs ys : List ℕ) (n o : ℕ) → length xs ≡ n
      → ent 𝓤 (sem 𝓛 (Row o (xs ++ ys))) (sep 𝓤 (sem 𝓛 (Row o xs)) (sem 𝓛 (Row (n + o) ys)))
  cut xs ys n o e = qed 𝓛 (‵ (Row o (xs ++ ys)) ∷ []) ∵ use1 𝓛 (‵ (Row o xs) ⊛ ‵ (Row (elements.at o (mem u8).size (length xs)) ys))
      (cut_app 𝓛 (mem u8) xs ys b o) $ split ! $
      rewrite ! 1 (λ (k : ℕ). ‵ (Row k ys)) (at_byte o (length xs) ∙ ap (λ k. k + o) e) refl $ done !

  pub glue : (xs ys : List ℕ) (n o : ℕ) → length xs ≡ n
      → ent 𝓤 (sep 𝓤 (sem 𝓛 (Row o xs)) (sem 𝓛 (Row (n + o) ys))) (sem 𝓛 (Row o (xs ++ ys)))
  glue xs ys n o e = qed 𝓛 (‵ (Row o xs) ∷ ‵ (Row (n + o) ys) ∷ []) ∵ rewrite ! 1 (λ (k : ℕ). ‵ (Row k ys))
      (sym (at_byte o (length xs) ∙ ap (λ k. k + o) e)) refl $ by ! (join_app 𝓛 (mem u8) xs ys b o)

  module _ (o : ℕ) (xs : List ℕ) (at len : ℕ) (le : at + len ≤ length xs) where
    -- the bytes except the len from at on
    abbrev pub Around : Fml
    Around = fsep (Row o (take at xs)) (Row (len + (at + o)) (drop_l (at + len) xs))

    front : length (take at xs) ≡ at
    front = omega (arith, length-take at xs)

    run : length (take len (drop_l at xs)) ≡ len
    run = omega (arith, length-take len (drop_l at xs), length-drop at xs)

    pub run_out : ent 𝓤 (sem 𝓛 (Row o xs)) (sep 𝓤 (sem 𝓛 (Row (at + o) (take len (drop_l at xs)))) (sem 𝓛 Around))
    run_out =
        let mid = take len (drop_l at xs) in let rest = drop_l (at + len) xs in
        qed 𝓛 (‵ (Row o xs) ∷ []) ∵
        rewrite ! 0 (λ (l : List ℕ). ‵ (Row o l))
        (sym (take-append-drop at xs)
        ∙ ap (λ l. take at xs ++ l) (sym (take-append-drop len (drop_l at xs)) ∙ ap (λ l. mid ++ l) (drop-drop len at xs))) refl $
        use1 𝓛 (‵ (Row o (take at xs)) ⊛ ‵ (Row (at + o) (mid ++ rest))) (cut (take at xs) (mid ++ rest) at o front) $ split !
        $ move ! (1 ∷ []) $
        use1 𝓛 (‵ (Row (at + o) mid) ⊛ ‵ (Row (len + (at + o)) rest)) (cut mid rest len (at + o) run) $ split ! $ move ! (2 ∷ 1 ∷ [])
        $ fjoin ! $ move ! (1 ∷ 0 ∷ []) $ done !

    pub run_in : (ws : List ℕ) → length ws ≡ len → ent 𝓤 (sep 𝓤 (sem 𝓛 (Row (at + o) ws)) (sem 𝓛 Around)) (sem 𝓛 (Row o (written xs at ws)))
    run_in ws e =
        let rest = drop_l (at + len) xs in
        qed 𝓛 (‵ (Row (at + o) ws) ∷ ‵ Around ∷ []) ∵ move ! (1 ∷ []) $ fsplit ! $ move ! (2 ∷ 1 ∷ []) $
        use2 𝓛 (‵ (Row (at + o) (ws ++ rest))) (glue ws rest len (at + o) e) $ move ! (1 ∷ 0 ∷ []) $
        use2 𝓛 (‵ (Row o (take at xs ++ (ws ++ rest)))) (glue (take at xs) (ws ++ rest) at o front) $
        rewrite ! 0 (λ (l : List ℕ). ‵ (Row o l)) (ap (λ k. take at xs ++ (ws ++ drop_l (at + k) xs)) (sym e)
        ∙ sym (written_is xs at ws (omega arith))) refl $ done !

  module _ (xs : List ℕ) (lo low hi high : ℕ) (apart : lo + low ≤ hi) (within : hi + high ≤ length xs) where
    abbrev both : List ℕ → List ℕ → List ℕ
    both ls hs = written (take hi xs) lo ls ++ (hs ++ drop_l (hi + length hs) xs)

    front_long : length (take hi xs) ≡ hi
    front_long = omega (arith, length-take hi xs)

    module _ (ls hs : List ℕ) (e : length ls ≡ low) (f : length hs ≡ high) where
      low_first : written (written xs lo ls) hi hs ≡ both ls hs
      low_first =
          let long = length-written xs lo ls in
          written_is (written xs lo ls) hi hs (omega arith)
          ∙ (λ i. take-written xs hi (omega arith) lo ls (omega arith) i
          ++ (hs ++ drop-written xs lo ls (omega arith) (hi + length hs) (omega arith) i))

      high_first : written (written xs hi hs) lo ls ≡ both ls hs
      high_first = ap (λ l. written l lo ls) (written_is xs hi hs (omega arith))
          ∙ written-append_left (take hi xs) (hs ++ drop_l (hi + length hs) xs) lo ls (omega (arith, front_long))

    same_run : take low (drop_l lo (take hi xs)) ≡ take low (drop_l lo xs)
    same_run = let e : hi ≡ lo + (hi - lo) = omega arith in grind (arith, drop-take, take-take)

    module _ (o : ℕ) where
      inner : lo + low ≤ length (take hi xs)
      inner = omega (arith, front_long)

      abbrev Others : Fml
      Others = fsep (Around o (take hi xs) lo low inner) (Row (high + (hi + o)) (drop_l (hi + high) xs))

      both_out : ent 𝓤 (sem 𝓛 (Row o xs))
          (sep 𝓤 (sem 𝓛 (Row (lo + o) (take low (drop_l lo xs))))
          (sep 𝓤 (sem 𝓛 (Row (hi + o) (take high (drop_l hi xs)))) (sem 𝓛 Others)))
      both_out = qed 𝓛 (‵ (Row o xs) ∷ []) ∵
          use1 𝓛 (‵ (Row (hi + o) (take high (drop_l hi xs))) ⊛ ‵ (Around o xs hi high within)) (run_out o xs hi high within)
          $ split ! $ move ! (1 ∷ []) $ fsplit ! $
          use1 𝓛 (‵ (Row (lo + o) (take low (drop_l lo (take hi xs)))) ⊛ ‵ (Around o (take hi xs) lo low inner))
          (run_out o (take hi xs) lo low inner) $ split ! $
          rewrite ! 0 (λ (l : List ℕ). ‵ (Row (lo + o) l)) same_run refl $ move ! (1 ∷ 2 ∷ []) $ fjoin !
          $ move ! (1 ∷ 2 ∷ 0 ∷ []) $ done !

      both_in : (ls hs : List ℕ) → length ls ≡ low → length hs ≡ high
          → ent 𝓤 (sep 𝓤 (sem 𝓛 (Row (lo + o) ls)) (sep 𝓤 (sem 𝓛 (Row (hi + o) hs)) (sem 𝓛 Others))) (sem 𝓛 (Row o (both ls hs)))
      both_in ls hs e f = qed 𝓛 (‵ (Row (lo + o) ls) ∷ ‵ (Row (hi + o) hs) ∷ ‵ Others ∷ []) ∵ move ! (2 ∷ []) $ fsplit !
          $ move ! (2 ∷ 0 ∷ []) $
          use2 𝓛 (‵ (Row o (written (take hi xs) lo ls))) (run_in o (take hi xs) lo low inner ls e) $ move ! (2 ∷ 1 ∷ []) $
          use2 𝓛 (‵ (Row (hi + o) (hs ++ drop_l (hi + high) xs))) (glue hs (drop_l (hi + high) xs) high (hi + o) f)
          $ move ! (1 ∷ 0 ∷ []) $
          use2 𝓛 (‵ (Row o (written (take hi xs) lo ls ++ (hs ++ drop_l (hi + high) xs))))
          (glue (written (take hi xs) lo ls) (hs ++ drop_l (hi + high) xs) hi o (length-written (take hi xs) lo ls ∙ front_long)) $
          rewrite ! 0 (λ (k : ℕ). ‵ (Row o (written (take hi xs) lo ls ++ (hs ++ drop_l (hi + k) xs)))) (sym f) refl $ done !

  module _ (o : ℕ) (xs : List ℕ) (at len to more : ℕ) where
    pub record TwoRuns : Type 1 where
      pub rest : Fml
      pub out : ent 𝓤 (sem 𝓛 (Row o xs))
          (sep 𝓤 (sem 𝓛 (Row (at + o) (take len (drop_l at xs))))
          (sep 𝓤 (sem 𝓛 (Row (to + o) (take more (drop_l to xs)))) (sem 𝓛 rest)))
      pub back : (ws us : List ℕ) → length ws ≡ len → length us ≡ more
          → ent 𝓤 (sep 𝓤 (sem 𝓛 (Row (at + o) ws)) (sep 𝓤 (sem 𝓛 (Row (to + o) us)) (sem 𝓛 rest)))
          (sem 𝓛 (Row o (written (written xs at ws) to us)))

    pub two_runs : at + len ≤ length xs → to + more ≤ length xs → (at + len ≤ to) ⊎ (to + more ≤ at) → TwoRuns
    two_runs p q (inl d) = record {
      rest = Others xs at len to more d q o;
      out = both_out xs at len to more d q o;
      back = λ ws us e f. qed 𝓛 (‵ (Row (at + o) ws) ∷ ‵ (Row (to + o) us) ∷ ‵ (Others xs at len to more d q o) ∷ []) ∵
          use3 𝓛 (‵ (Row o (both xs at len to more d q ws us))) (both_in xs at len to more d q o ws us e f) $
          rewrite ! 0 (λ (l : List ℕ). ‵ (Row o l)) (sym (low_first xs at len to more d q ws us e f)) refl $ done !;
    }
    two_runs p q (inr d) = record {
      rest = Others xs to more at len d p o;
      out = qed 𝓛 (‵ (Row o xs) ∷ []) ∵
          use1 𝓛 (‵ (Row (to + o) (take more (drop_l to xs)))
          ⊛ (‵ (Row (at + o) (take len (drop_l at xs))) ⊛ ‵ (Others xs to more at len d p o)))
          (both_out xs to more at len d p o) $ split ! $ move ! (1 ∷ []) $ split ! $ move ! (0 ∷ 2 ∷ 1 ∷ []) $ done !;
      back = λ ws us e f. qed 𝓛 (‵ (Row (at + o) ws) ∷ ‵ (Row (to + o) us) ∷ ‵ (Others xs to more at len d p o) ∷ []) ∵ move !
          (1 ∷ 0 ∷ 2 ∷ []) $
          use3 𝓛 (‵ (Row o (both xs to more at len d p us ws))) (both_in xs to more at len d p o us ws f e) $
          rewrite ! 0 (λ (l : List ℕ). ‵ (Row o l)) (sym (high_first xs to more at len d p us ws f e)) refl $ done !;
    }

module _ {M : Type 1} {𝓤 : Ura M} (𝓛 : Logic 𝓤) (κ : Lft) (b o : ℕ) (xs : List ℕ) (at len : ℕ) where
  pub run_seen : at ≤ length xs
      → ent 𝓤 (sem 𝓛 (elements_shared u8 xs b o κ)) (sem 𝓛 (elements_shared u8 (take len (drop_l at xs)) b (at + o) κ))
  run_seen le = qed 𝓛 (‵ (elements_shared u8 xs b o κ) ∷ []) ∵
      use1 𝓛 (‵ (elements_shared u8 (drop_l at xs) b (elements.at o (mem u8).size (length (take at xs))) κ))
      (each-drop 𝓛 (shared_of u8) (mem u8).size κ b at xs o) $
      rewrite ! 0 (λ (k : ℕ). ‵ (elements_shared u8 (drop_l at xs) b k κ)) (ap (elements.at o (mem u8).size) (length-take-le at xs le)
      ∙ at_byte o at) refl $
      by ! (each_take 𝓛 (shared_of u8) (mem u8).size κ b len (drop_l at xs) (at + o))
