-- `pair_mut` lends two runs of the bytes, and the arena follows both. Assumes `Logic`.
use Rattle.arena_core.proofs.Words.{◌≡◌, ℕ, ◌+◌, ◌-◌, ◌*◌, ◌^◌, ◌<◌, ◌≤◌, List, [], ◌∷◌, length, take, refl, sym, ap, ◌∙◌, arith, full_share, proved, id⊢, ftrue, flft, named, Val, fact, tables, ‵, raw, ◌⊛◌, some, later, at_ret, ◌$◌, ◌∵◌, !, qed, done, move, keep, drop, use1, use2, pick, await, group, split, split3, join, fsplit, fsplit3, fpick, fjoin, fjoin3, rewrite, suffices, frame, whole, agg, sub, look_in, enter, of_opd, bin, load, stop, fld, no_more, and_then, first, blocks, exec, returns, alloc_all, pass_all, free_all, look_at, get, get_in, through, sets, sets_last, env, u8, in_a_block, lies_at, cell_at, part_at, mem, MutRef, mut_vals, mut_Tells, MutSlice, MutBor, Ptr, slice_val, Array, GName, nothing, heard, peeks, shows, Stays, walk_of, stay_dropped, Goes-dropped, Goes-spent_ref, ends_at, after, plain, yes, by, use3, ent, sep, sem, length-take, length-drop, cells, Arr, mut_ref_to, no, after₂, follows_both, ◌⊎◌, fsep, written}
use base.Fml.{fex}
use lib.ListN.{drop as drop_l}
use types.Mut.{open_ref}
use types.Run.{un}
use denote.Struct.Tuple.{Tuple}
use Rattle.core.proofs.mem.Facts.{says_two}
use Rattle.std_alloc.proofs.Pairs.{pair_val, pair_of}
use Rattle.arena_core.specs.Code.Contents.{Contents, contents}
use Rattle.arena_core.specs.declared.arena.Arena.TheInside.{Inside}
use Rattle.arena_core.proofs.Blocks.{bytes_out, Rest₂, back₂, with_pair}
use Rattle.arena_core.proofs.LendsTwo.{lends_two, both_of}
use Rattle.arena_core.proofs.Runs.{two_runs}
use Rattle.arena_core.proofs.Inner.{view, holds, inner, arena_out, block_of_arena, Others, values_of, arena_in}
use Rattle.arena_core.proofs.block.Block.TheLaws.{lowers}
use Rattle.arena_core.proofs.span.Span.TheLaws.{lowers as span_lowers}
use Rattle.arena_core.specs.contracts.arena.Arena.{the_row as R}
use Rattle.arena_core.specs.contracts.arena.Arena.TheInside.{the_row as I}
use Rattle.arena_core.specs.contracts.block.Block.{the_row as B}
use Rattle.arena_core.specs.contracts.span.Span.{the_row as Range}
use Rattle.arena_core.specs.contracts.arena.Arena.pair_mut as f
use Rattle.arena_core.proofs.arena.Arena.pair_mut.Statement.{statement}
use Rattle.arena_core.proofs.arena.Arena.pair_mut.Code as code

abbrev stayed : Stays f.ended.signature.params f.ended.kept
stayed = let range = stay_dropped (plain (λ _. Range)) yes in
    (stay_dropped (mut_ref_to (0 ∷ []) tt (plain (λ _. R))) no, (range, (range, tt)))

pub pair_mut_spec : {M : Type 1} → statement M
pair_mut_spec 𝓤 𝓛 𝓜 𝓡 wired =
    let c = f.clauses 𝓛 𝓜.mem 𝓡.returns in let W = walk_of 𝓛 f.ended stayed c in let 𝓣 = tables 𝓤 𝓛.H 𝓜 𝓡 𝓡.env in
    let range = Goes-dropped 𝓛 1 (plain (λ _. Range)) yes (λ κs x w. refl) in let vals = λ (s : Range.Denot). span_lowers.lowered s ∷ [] in
    let tells = span_lowers.val_is in
    proved 𝓛 f.ended stayed c 𝓜 𝓡 (Goes-spent_ref 𝓛 1 (0 ∷ []) tt (plain (λ _. R)), (range, (range, tt)))
    f.Key.name code.function (code.unfolded 𝓤 𝓛.H 𝓜 𝓡 wired)
    (λ κs. (mut_vals, (vals, (vals, tt)))) (λ κs. (mut_Tells (named 0) κs.0 R, (tells, (tells, tt)))) (λ κs qs bounds a _ are.
    let d = a.0.now in let rb = a.0.ref_ptr.0 in let ro = a.0.ref_ptr.1 in let γ = a.0.ghost_name in let κ = κs.0 in let q = qs.0 in
    let one_span = a.1.0 in let two_span = a.1.1.0 in
    let at = one_span.at in let len = one_span.len in let to = two_span.at in let more = two_span.len in
    let y : W.Ghost = ((κs, qs, bounds, a, (mut_vals a.0, (vals one_span, (vals two_span, tt)))), tt) in
    qed 𝓛 (((‵ (flft κ q) ⊛ ‵ ftrue) ⊛ ‵ ((MutRef (named 0) κ R).own_val a.0 (mut_vals a.0))
    ⊛ ‵ (Range.own_val one_span (vals one_span)) ⊛ ‵ (Range.own_val two_span (vals two_span)) ⊛ ‵ ftrue)
    ∷ (raw (fact 𝓤 (at + len ≤ length d.bytes)) ⊛ raw (fact 𝓤 (to + more ≤ length d.bytes))
    ⊛ raw (fact 𝓤 ((at + len ≤ to) ⊎ (to + more ≤ at)))) ∷ []) ∵
    move ! (1 ∷ []) $ split ! $ heard ! _ (λ p. split ! $ heard ! _ (λ p'. heard ! _ (λ apart. split ! $ split ! $ move ! (2 ∷ []) $
    split ! $ keep ! (0 ∷ 2 ∷ []) $
    let fits : at + len < 2 ^ 32 = one_span.fits in let fits' : to + more < 2 ^ 32 = two_span.fits in
    enter ! _ _ _ _ _ $ alloc_all ! (λ l. pass_all ! refl (
      (tt, tt),
      (
        (tt, (record { fits = omega arith }, (record { fits = omega arith }, tt))),
        ((tt, (record { fits = omega arith }, (record { fits = omega arith }, tt))), tt),
      ),
    ) $
    fsplit3 ! $ drop ! $ open_ref ! tt (mem R) {x = d} {b = rb} {o = ro} $
    use1 𝓛 (some (λ (x : (a : Inside) × ((view a ≡ d) × holds a)). ‵ (part_at I full_share x.0 rb ro))) (arena_out 𝓛 rb ro d) $ pick ! (λ x.
    let h = x.0.block in let xs = h.bytes in let bo = inner ro in
    use1 𝓛 (‵ (part_at B full_share h rb bo) ⊛ raw (Others 𝓛 rb ro x.0)) (block_of_arena 𝓛 rb ro x.0) $ split ! $
    use1 𝓛 (‵ (fex (List Val) (λ vs. fsep (cell_at full_share B.mir vs rb bo) (B.own_val h vs)))) (values_of 𝓛 h rb bo) $
    fpick ! (λ us. fsplit ! $
    move ! (1 ∷ []) $ peeks ! B _ (shows 𝓛 B) h us (λ told. fsplit ! $ move ! (1 ∷ []) $ fsplit ! $
    in_a_block ! h.ptr (λ p. lies_at (Array u8 h.len) full_share p xs) (id⊢ 𝓤 _) (λ pb po e.
    let ys = take len (drop_l at xs) in let zs = take more (drop_l to xs) in
    let small = h.ok.1 in let long = h.ok.0 in
    let within : at + len ≤ length xs = omega (arith, p, ap (λ (z : Contents). length z.bytes) x.1.0) in
    let within' : to + more ≤ length xs = omega (arith, p', ap (λ (z : Contents). length z.bytes) x.1.0) in
    let count : length ys ≡ len = omega (arith, length-take len (drop_l at xs), length-drop at xs) in
    let count' : length zs ≡ more = omega (arith, length-take more (drop_l to xs), length-drop to xs) in
    let one : ℕ × ℕ = (pb, at + po) in let two : ℕ × ℕ = (pb, to + po) in
    let Cell = λ (ws : List Val). ‵ (cell_at full_share B.mir ws rb bo) in
    let word = lowers.val_is h us told ∙ ap (λ (p : Ptr). lowers.lowered (record h { ptr = p }) ∷ []) e in
    let runs = two_runs 𝓛 pb po xs at len to more within within' apart in let Then = Rest₂ 𝓛 h rb bo us at len to more pb po e runs in
    let room : (length ys < 2 ^ 64) × (length ys * 1 < 2 ^ 63) = (omega arith, omega arith) in
    let room' : (length zs < 2 ^ 64) × (length zs * 1 < 2 ^ 63) = (omega arith, omega arith) in
    use1 𝓛 (‵ (cells (mem u8) xs pb po)) (bytes_out 𝓛 h rb bo us pb po) $
    use1 𝓛 (‵ (cells (mem u8) ys pb (at + po)) ⊛ (‵ (cells (mem u8) zs pb (to + po)) ⊛ ‵ runs.rest)) runs.out $ split ! $ move ! (1 ∷ []) $
    split ! $ rewrite ! 5 Cell word refl $
    -- [the second run; the other bytes; the first run; the token; what the fields own; the block's cell; the other fields; the open
    -- borrow; obs; auth]
    first ! $ blocks ! $
    sets ! (of_opd ! (load ! (through ! refl (fld ! refl (fld ! refl (stop !)))) (look_in ! 5 (sub ! 0 refl (whole !))))) refl (tt, tt) $
    sets ! (un ! (get_in ! (fld ! refl (stop !)) (sub ! 0 refl (whole !))) (record { fits = omega arith })) refl
    (tt, record { fits = omega arith }) $
    sets ! (bin ! (get ! refl) (get ! refl) tt) refl (tt, tt) $
    sets ! (un ! (get_in ! (fld ! refl (stop !)) (sub ! 1 refl (whole !))) (record { fits = omega arith })) refl
    (tt, record { fits = omega arith }) $
    sets ! (agg ! (and_then ! (get ! refl) (and_then ! (get ! refl) (no_more !)))) refl (tt, (tt, (record { fits = omega arith }, tt))) $
    sets ! (of_opd ! (load ! (through ! refl (fld ! refl (fld ! refl (stop !)))) (look_in ! 5 (sub ! 0 refl (whole !))))) refl (tt, tt) $
    sets ! (un ! (get_in ! (fld ! refl (stop !)) (sub ! 0 refl (whole !))) (record { fits = omega arith })) refl
    (tt, record { fits = omega arith }) $
    sets ! (bin ! (get ! refl) (get ! refl) tt) refl (tt, tt) $
    sets ! (un ! (get_in ! (fld ! refl (stop !)) (sub ! 1 refl (whole !))) (record { fits = omega arith })) refl
    (tt, record { fits = omega arith }) $
    sets ! (agg ! (and_then ! (get ! refl) (and_then ! (get ! refl) (no_more !)))) refl (tt, (tt, (record { fits = omega arith }, tt))) $
    sets_last ! (agg ! (and_then ! (get ! refl) (and_then ! (get ! refl) (no_more !)))) refl
    (tt, ((tt, (record { fits = omega arith }, tt)), ((tt, (record { fits = omega arith }, tt)), tt))) $
    exec ! 𝓣.C 𝓣.Λ (env code.Mir.locals l) (after 1 (code.function).body) (at_ret _ (W.post y)) $
    sets ! (of_opd ! (get ! refl)) refl (tt, ((tt, (record { fits = omega arith }, tt)), ((tt, (record { fits = omega arith }, tt)), tt))) $
    rewrite ! 5 Cell (sym word) refl $ move ! (3 ∷ 4 ∷ 5 ∷ []) $ fjoin3 ! $ move ! (2 ∷ 0 ∷ []) $ fjoin ! $ move ! (0 ∷ 3 ∷ []) $ join ! $
    move ! (3 ∷ 4 ∷ 5 ∷ 2 ∷ 1 ∷ 0 ∷ []) $ group ! 6 $
    let F : List ℕ → List ℕ → Contents = λ ws vs. contents (written (written d.bytes at ws) to vs) d.carved in
    let way = λ (ws vs : List ℕ) (s : length ws ≡ length ys) (t : length vs ≡ length zs).
    let way_in : ent 𝓤
    (sep 𝓤 (sem 𝓛 (cells (mem u8) ws pb (at + po)))
    (sep 𝓤 (sem 𝓛 (cells (mem u8) vs pb (to + po))) (sep 𝓤 (sem 𝓛 Then) (Others 𝓛 rb ro x.0))))
    (sem 𝓛 ((mem R).own_at (F ws vs) rb ro)) =
    qed 𝓛 (‵ (cells (mem u8) ws pb (at + po)) ∷ ‵ (cells (mem u8) vs pb (to + po)) ∷ (‵ Then ⊛ raw (Others 𝓛 rb ro x.0)) ∷ []) ∵
    move ! (2 ∷ []) $ split ! $ move ! (2 ∷ 3 ∷ 0 ∷ 1 ∷ []) $
    use3 𝓛 (‵ (part_at B full_share (with_pair h at to ws vs) rb bo))
    (back₂ 𝓛 h rb bo us at len to more pb po e runs ws vs (s ∙ count) (t ∙ count')) $
    by ! (arena_in 𝓛 rb ro d x.0 x.1.0 x.1.1 at to ws vs) in way_in in
    let r : GName → MutBor (List ℕ) = λ δ. record { ref_ptr = one; ghost_name = δ; now = ys } in
    let s : GName → MutBor (List ℕ) = λ δ. record { ref_ptr = two; ghost_name = δ; now = zs } in let S = MutSlice (named 0) κ u8 in
    use1 𝓛 (later (some (λ (δ : GName × GName). ‵ (S.own_val (r δ.0) (slice_val one (length ys) ∷ []))
    ⊛ (‵ (S.own_val (s δ.1) (slice_val two (length zs) ∷ []))
    ⊛ (‵ (flft κ q) ⊛ ‵ (after₂ (mem R) (Arr (mem u8) 0) (Arr (mem u8) 0) γ δ.0 δ.1 F))))))
    (lends_two 𝓛 (mem R) F κ q rb ro pb (at + po) (to + po) γ ys zs room room' (sep 𝓤 (sem 𝓛 Then) (Others 𝓛 rb ro x.0)) way
    (R.coded.code d) (R.coded.code d)) $ await ! tt $ pick ! (λ δ. split ! $
    rewrite ! 0 (λ (k : ℕ). ‵ (S.own_val (r δ.0) (slice_val one k ∷ []))) count refl $ move ! (1 ∷ []) $ split3 ! $
    rewrite ! 0 (λ (k : ℕ). ‵ (S.own_val (s δ.1) (slice_val two k ∷ []))) count' refl $ move ! (2 ∷ []) $
    use1 𝓛 (‵ (follows_both R (Array u8 0) (Array u8 0) γ δ.0 δ.1 F)) (both_of 𝓛 R F γ δ.0 δ.1) $ move ! (1 ∷ 2 ∷ 0 ∷ []) $
    move ! (3 ∷ 0 ∷ []) $
    use2 𝓛 (‵ ((Tuple (S ∷ S ∷ [])).own_val (r δ.0, s δ.1) (pair_val (slice_val one len) (slice_val two more) ∷ [])))
    (pair_of 𝓛 S S (r δ.0) (s δ.1) (slice_val one len) (slice_val two more)) $
    returns ! (look_at ! 0 refl) $ free_all ! refl $ keep ! (0 ∷ 1 ∷ 2 ∷ []) $
    suffices ! _ (ends_at 𝓛 f.ended stayed c y (pair_val (slice_val one len) (slice_val two more)) (r δ.0, s δ.1)
    (tt, (tt, (tt, tt))) (tt, (tt, (tt, tt)))) $
    nothing ! $ nothing ! $ fjoin ! $ nothing ! $ fjoin ! $ nothing ! $ fjoin ! $ join ! $ nothing ! $ move ! (2 ∷ 0 ∷ []) $ join ! $
    join ! $ frame ! $
    let i : len ≡ (at + len) - at = omega arith in let j : more ≡ (to + more) - to = omega arith in
    let same : xs ≡ d.bytes = ap (λ (z : Contents). z.bytes) x.1.0 in
    says_two ! (
      ap (λ k. take k (drop_l at xs)) i ∙ ap (λ l. take (at + len - at) (drop_l at l)) same,
      ap (λ k. take k (drop_l to xs)) j ∙ ap (λ l. take (to + more - to) (drop_l to l)) same,
    ) $ done !))))))))))
